use Rattle.search_theory.specs.Steps.{MovesPlayed}
use Rattle.search.specs.Contents.{nodes_of}
use Rattle.search.specs.inside.Memory.{ChangesNodesOnly}
use Rattle.search.specs.inside.Parts.{OfTaken}
use Rattle.search.proofs.search.Search.expand.Given as goal

-- the moves before the number were played
abbrev pub invariant-loop-number : goal.invariant-loop-number
invariant-loop-number g l = record {
  framed : ChangesNodesOnly l.fn.self l.self;
  played : (
      let m = g.Z.Puzzle.meaning l.puzzle in
      OfTaken m (nodes_of l.fn.self) l.from (λ taken. MovesPlayed m l.fn.self.open_list.capacity l.from.place taken (nodes_of l.fn.self) l.number (nodes_of l.self))
      );
}
