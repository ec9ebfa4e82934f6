use Rattle.grid.proofs.Laws.{steps_on}
use Rattle.grid.proofs.Grid.neighbour.Goals as goal

pub returns-clause-onward : goal.returns-clause-onward
returns-clause-onward c = steps_on _ _ _ _
