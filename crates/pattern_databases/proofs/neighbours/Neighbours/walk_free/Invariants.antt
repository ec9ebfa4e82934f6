use Rattle.std.proofs.Common.{◌+◌, ◌*◌, ◌<◌, ◌≤◌, take}
use Rattle.slides.proofs.Ahead.{ahead}
use Rattle.pattern_databases.proofs.Tables.{direction_at}
use Rattle.pattern_databases.proofs.Rays.{ReachedEarly, ReachedWith}
use Rattle.pattern_databases.proofs.neighbours.Neighbours.walk_free.Given as goal

-- the landings are what the directions so far reach, at most 15 in each
abbrev pub invariant-loop-direction : goal.invariant-loop-direction
invariant-loop-direction l =
    let ls = take l.landings.count l.landings.cells in
    record {
      few : l.landings.count ≤ 15 * l.direction-index;
      reached : ReachedEarly l.self.grid.width l.self.grid.height l.map l.direction-index l.from ls;
    }

-- with what is still reached from the cell `at`, they are what this direction reaches too
abbrev pub invariant-loop-at : goal.invariant-loop-at
invariant-loop-at l =
    let w = l.self.grid.width in
    let h = l.self.grid.height in
    let d = direction_at l.direction-index in
    let ls = take l.landings.count l.landings.cells in
    record {
      on : l.at < w * h;
      few : l.landings.count + ahead w h l.at d ≤ 15 * l.direction-index + 15;
      reached : ReachedWith w h l.map l.direction-index d l.from l.at ls;
    }

-- a step leaves fewer cells ahead
abbrev pub decreases-loop-at : goal.decreases-loop-at
decreases-loop-at l = ahead l.self.grid.width l.self.grid.height l.at (direction_at l.direction-index)
