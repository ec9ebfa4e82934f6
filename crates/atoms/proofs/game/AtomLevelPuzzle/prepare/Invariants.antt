use Rattle.atoms.specs.Level.{atoms}
use Rattle.atoms.proofs.Blocking.{BlockedBy}
use Rattle.atoms.proofs.game.AtomLevelPuzzle.prepare.Given as goal

abbrev pub invariant-loop-cell : goal.invariant-loop-cell
invariant-loop-cell l = BlockedBy (atoms l.self) l.blocked l.cell-items l.cell-index
