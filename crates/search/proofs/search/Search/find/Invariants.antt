use Rattle.std.proofs.Common.{◌≡◌}
use Rattle.puzzle.specs.Game.{Reached}
use Rattle.search_theory.specs.inside.Invariants.{NodeInvariant}
use Rattle.search.specs.Contents.{nodes_of}
use Rattle.search.proofs.Finding.{places_left, HasKey, Left}
use Rattle.search.proofs.search.Search.find.Given as goal

-- no node after the candidate holds the position
abbrev pub invariant-loop-candidate : goal.invariant-loop-candidate
invariant-loop-candidate g l = record {
  keyed : HasKey l.self.index.keys l.key l.candidate;
  left : (
      let m = g.Z.Puzzle.meaning l.puzzle in
      NodeInvariant m (nodes_of l.self) → Reached m.game l.position → l.key ≡ m.key l.position → Left m l.self.table l.self.open_list.entries l.self.index.keys l.self.links l.position l.candidate
      );
}

abbrev pub decreases-loop-candidate : goal.decreases-loop-candidate
decreases-loop-candidate g l = places_left l.candidate
