use Rattle.std.proofs.Common.{[]}
use Rattle.tiles.specs.Distances.{MeasuredOn}
use Rattle.tiles.proofs.Filling.{Filled}
use Rattle.tiles.proofs.distances.distance_table.Given as goal

abbrev pub invariant-loop-cell : goal.invariant-loop-cell
invariant-loop-cell l = Filled (MeasuredOn l.width) 16 l.cell l.distances []
