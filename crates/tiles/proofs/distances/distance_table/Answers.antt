use Rattle.tiles.proofs.Filling.{filled_more}
use Rattle.tiles.proofs.distances.distance_table.Goals as goal

pub loop-cell-preserved : goal.loop-cell-preserved
loop-cell-preserved c = filled_more _ _ _ _ _ _ c.loop-cell.invariant c.loop-cell-test.true c.distances_on.ensures
