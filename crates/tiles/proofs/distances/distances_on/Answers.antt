use Rattle.tiles.proofs.Filling.{filled_more}
use Rattle.tiles.proofs.distances.distances_on.Goals as goal

pub loop-tile-preserved : goal.loop-tile-preserved
loop-tile-preserved c = filled_more _ _ _ _ _ _ c.loop-tile.invariant c.loop-tile-test.true c.way_home.ensures
