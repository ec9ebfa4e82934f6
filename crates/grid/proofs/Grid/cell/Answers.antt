use Rattle.grid.proofs.Laws.{cell_reads_back}
use Rattle.grid.proofs.Grid.cell.Goals as goal

pub returns-clause-back : goal.returns-clause-back
returns-clause-back c = cell_reads_back _ _ _
