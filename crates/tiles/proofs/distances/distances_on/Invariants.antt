use Rattle.std.proofs.Common.{◌≡◌, ℕ}
use Rattle.tiles.specs.Distances.{way_home}
use Rattle.tiles.proofs.Filling.{Filled}
use Rattle.tiles.proofs.distances.distances_on.Given as goal

abbrev pub invariant-loop-tile : goal.invariant-loop-tile
invariant-loop-tile l = Filled (λ t (away : ℕ). away ≡ way_home l.width l.cell t) 16 l.tile l.distances 0
