use Rattle.std.proofs.Common.{◌≡◌, ℕ, ◌+◌, ◌-◌, ◌*◌, ◌≤◌}
use Rattle.tiles.specs.Board.{first_cells}
use Rattle.tiles.specs.Distances.{total_way_home}
use Rattle.tiles.proofs.level.TileLevel.manhattan.Given as goal

-- the tiles that were looked at and those that are left
pub record Sums (w n i p rest total : ℕ) : Type 0 where
  pub small : total ≤ 255 * i
  pub whole : total + total_way_home w i (first_cells (n - i) rest) ≡ total_way_home w 0 (first_cells n p)

abbrev pub invariant-loop-distances : goal.invariant-loop-distances
invariant-loop-distances l =
    Sums l.self.grid.width (l.self.grid.width * l.self.grid.height) l.distances-index l.position l.rest l.total
