use Rattle.std.proofs.Common.{◌≡◌, false, length}
use Rattle.atoms.specs.Level.{atoms}
use Rattle.atoms.proofs.Fits.{FitsBefore, NoneFits}
use Rattle.atoms.proofs.game.AtomLevelPuzzle.is_goal.Given as goal

abbrev pub invariant-goal_places : goal.invariant-goal_places
invariant-goal_places l = (l.found ≡ false) × NoneFits (atoms l.self) l.at l.goal_place-items l.goal_place-index

abbrev pub invariant-loop-cell : goal.invariant-loop-cell
invariant-loop-cell l = FitsBefore (atoms l.self) l.at l.goal_place (length l.yielded)
