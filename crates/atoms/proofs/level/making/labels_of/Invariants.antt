use Rattle.std.proofs.Common.{◌≡◌, length, take}
use Rattle.pictures.specs.Pictures.{shape}
use Rattle.atoms.specs.Board.{labels_of, array_of}
use Rattle.atoms.proofs.level.making.labels_of.Given as goal

abbrev pub invariant-loop-atom : goal.invariant-loop-atom
invariant-loop-atom l = l.labels ≡ array_of (take (length l.yielded) (labels_of (shape l.board)))
