use Rattle.std.proofs.Common.{◌≤◌}
use Rattle.search_theory.specs.Calls.{AllCallsFor}
use Rattle.search.specs.Contents.{nodes_of, search_of}
use Rattle.search.proofs.Reciting.{Reciting}
use Rattle.search.proofs.search.Search.recite.Given as goal

-- the moves from `left` on are written
abbrev pub invariant-loop-left : goal.invariant-loop-left
invariant-loop-left g l = record {
  within : l.left ≤ l.count;
  reciting : (
      let m = g.Z.Puzzle.meaning l.puzzle in
      AllCallsFor m (search_of l.self) → Reciting m (nodes_of l.self) l.place l.left l.count l.fn.moves l.moves
      );
}

abbrev pub decreases-loop-left : goal.decreases-loop-left
decreases-loop-left g l = l.left
