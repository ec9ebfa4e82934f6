use Rattle.std.proofs.Common.{◌≡◌, length, take}
use Rattle.pictures.specs.Pictures.{shape}
use Rattle.atoms.specs.Board.{atom_cells, array_of}
use Rattle.atoms.proofs.level.making.start_of.Given as goal

abbrev pub invariant-loop-atom : goal.invariant-loop-atom
invariant-loop-atom l = l.cells ≡ array_of (take (length l.yielded) (atom_cells (shape l.board)))
