use Rattle.std.proofs.Common.{◌≡◌, ◌≤◌}
use Rattle.pictures.specs.Pictures.{shape}
use Rattle.molecules.specs.Molecules.{molecule_shape}
use Rattle.molecules.specs.GoalPlaces.{is_goal_place, list_of}
use Rattle.molecules.proofs.Passing.{passing}
use Rattle.molecules.proofs.goal_places.GoalPlaces.find.Given as goal

abbrev pub invariant-loop-cell : goal.invariant-loop-cell
invariant-loop-cell l = record {
  found : list_of l.goal_places ≡ passing (is_goal_place (shape l.board) (molecule_shape l.molecule)) l.cell;
  few : l.goal_places.count ≤ l.cell;
}
