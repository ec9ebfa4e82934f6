use Rattle.std.proofs.Common.{◌≡◌, ℕ, ◌<◌, length}
use Rattle.pictures.specs.Pictures.{shape, cell_at}
use Rattle.molecules.specs.Atoms.{is_wall}
use Rattle.pattern_databases.specs.inside.Walking.{is_marked}
use Rattle.pattern_databases.proofs.neighbours.draw_walls.Given as goal

-- the cells so far are marked just where the board has walls
abbrev pub invariant-loop-cell : goal.invariant-loop-cell
invariant-loop-cell l = record {
  long : length l.map ≡ 256;
  drawn : (k : ℕ) → k < l.cell → is_marked l.map k ≡ is_wall (cell_at (shape l.board) k);
}
