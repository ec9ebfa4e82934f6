use Rattle.std.proofs.Common.{◌≡◌, ℕ, ◌&&◌, ltb}
use Rattle.pictures.specs.Pictures.{shape}
use Rattle.slides.specs.Sets.{has}
use Rattle.atoms.specs.Board.{is_wall_at}
use Rattle.atoms.proofs.level.making.walls_of.Given as goal

abbrev pub invariant-loop-cell : goal.invariant-loop-cell
invariant-loop-cell l = (k : ℕ) → has l.walls k ≡ (ltb k l.cell && is_wall_at (shape l.board) k)
