use Rattle.std.proofs.Common.{◌≡◌, ◌≤◌, ◌-◌, true, length}
use Rattle.search_theory.specs.declared.Verdict.TheVariants.{Running}
use Rattle.search_theory.specs.Calls.{AllCallsFor}
use Rattle.search_theory.specs.Steps.{state, Steps}
use Rattle.search.specs.Contents.{nodes_of, numbers_of, search_of}
use Rattle.search.proofs.search.Search.take_steps.Given as goal

-- so many steps were taken
abbrev pub invariant-loop-steps : goal.invariant-loop-steps
invariant-loop-steps g l = record {
  opened : l.self.opened ≡ true;
  table : length l.self.table ≡ length l.fn.self.table;
  numbers : numbers_of l.self ≡ numbers_of l.fn.self;
  within : l.steps ≤ l.budget;
  idle : ((l.fn.self.verdict ≡ Running → ⊥) → (l.self ≡ l.fn.self) × (l.steps ≡ 0));
  taken : (
      let m = g.Z.Puzzle.meaning l.puzzle in
      AllCallsFor m (search_of l.fn.self) → Steps m (length l.fn.self.table) (state (nodes_of l.fn.self) l.fn.self.verdict l.fn.self.steps) l.steps (state (nodes_of l.self) l.self.verdict l.self.steps)
      );
}

abbrev pub decreases-loop-steps : goal.decreases-loop-steps
decreases-loop-steps g l = l.budget - l.steps
