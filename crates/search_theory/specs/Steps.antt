-- The steps of a search. Assumes nothing.
use Rattle.std.specs.Prelude.{◌≡◌, ℕ, suc, ◌+◌, ◌<◌, ◌≤◌, true, false, List, [], ◌∷◌, ◌++◌, length, slice_get, slice_set, Some, None}
use Rattle.puzzle.specs.Meaning.{Meaning}
use Rattle.search_theory.specs.declared.Verdict.{Verdict}
use Rattle.search_theory.specs.declared.Verdict.TheVariants.{Running, Solved, Unsolvable, TableFull}
use Rattle.search_theory.specs.Nodes.{Node, closed_node, nearer_node, IsTaken, NoneOpen, IsNew}

-- the nodes in the order in which they were stored, the verdict, and how many steps were taken
pub record State (P : Type 0) : Type 0 where
  pub nodes : List (Node P)
  pub verdict : Verdict
  pub steps : ℕ

abbrev pub state : {P : Type 0} → List (Node P) → Verdict → ℕ → State P
state nodes verdict steps = record { nodes = nodes; verdict = verdict; steps = steps }

module _ {P : Type 0} (m : Meaning P) (capacity : ℕ) where
  -- an open node for a new position
  abbrev pub new_node : P → ℕ → ℕ → ℕ → ℕ → Node P
  new_node p depth parent move floor = record { position = p; depth = depth; parent = parent; move = move; floor = floor; key = m.key p; is_open = true }

  -- Moves that are played from a taken node, which has this place.
  module _ (place : ℕ) (taken : Node P) where
    -- what playing one move makes of the nodes
    pub data MovePlayed (number : ℕ) (old new : List (Node P)) : Type 0 where
      -- it is closed
      closed_move : m.game.move taken.position number ≡ None → new ≡ old → MovePlayed number old new
      -- a dead result is skipped
      dead_end : (q : P) → m.game.move taken.position number ≡ Some q → m.lower_bound q ≡ None → new ≡ old → MovePlayed number old new
      -- a stored result that was reached with no more moves before is skipped
      no_nearer : (q : P) (floor j : ℕ) (node : Node P) → m.game.move taken.position number ≡ Some q → m.lower_bound q ≡ Some floor → slice_get old j ≡ Some node → node.position ≡ q
          → node.depth ≤ taken.depth + 1 → new ≡ old → MovePlayed number old new
      -- a stored result that was reached with more moves takes the smaller number and is open again
      nearer : (q : P) (floor j : ℕ) (node : Node P) → m.game.move taken.position number ≡ Some q → m.lower_bound q ≡ Some floor → slice_get old j ≡ Some node → node.position ≡ q
          → taken.depth + 1 < node.depth → new ≡ slice_set old j (nearer_node node (taken.depth + 1) place number) → MovePlayed number old new
      -- a new one is stored if a place is free
      stored : (q : P) (floor : ℕ) → m.game.move taken.position number ≡ Some q → IsNew old q → m.lower_bound q ≡ Some floor → length old < capacity
          → new ≡ old ++ (new_node q (taken.depth + 1) place number floor ∷ []) → MovePlayed number old new

    -- a new result for which no place is free
    pub record Overflows (number : ℕ) (nodes : List (Node P)) : Type 0 where
      pub result : P
      pub floor : ℕ
      pub leads : m.game.move taken.position number ≡ Some result
      pub fresh : IsNew nodes result
      pub alive : m.lower_bound result ≡ Some floor
      pub full : capacity ≤ length nodes

    -- the moves before a number, played in order
    pub data MovesPlayed (old : List (Node P)) : ℕ → List (Node P) → Type 0 where
      none : MovesPlayed old 0 old
      next : {number : ℕ} {nodes new : List (Node P)} → MovesPlayed old number nodes → MovePlayed number nodes new → MovesPlayed old (suc number) new

  -- the verdict of a step that was no last one
  pub data GoesOn (nodes : List (Node P)) (verdict : Verdict) : Type 0 where
    some_open : (j : ℕ) (node : Node P) → slice_get nodes j ≡ Some node → node.is_open ≡ true → verdict ≡ Running → GoesOn nodes verdict
    none_open : NoneOpen nodes → verdict ≡ Unsolvable → GoesOn nodes verdict

  -- One step of a running search. The node that is taken is finished, and the verdict is its moves; or it is closed and
  -- all moves are played from it in order; or one of them finds the table full.
  pub data Step (old new : State P) : Type 0 where
    finishes : (place : ℕ) (node : Node P) → old.verdict ≡ Running → IsTaken old.nodes place node → m.game.finished node.position ≡ true
        → new ≡ state old.nodes (Solved node.depth) (old.steps + 1) → Step old new
    expands : (place : ℕ) (node : Node P) (nodes : List (Node P)) (verdict : Verdict) → old.verdict ≡ Running → IsTaken old.nodes place node
        → m.game.finished node.position ≡ false → MovesPlayed place node (slice_set old.nodes place (closed_node node)) m.game.count nodes
        → GoesOn nodes verdict → new ≡ state nodes verdict (old.steps + 1) → Step old new
    overflows : (place number : ℕ) (node : Node P) (nodes : List (Node P)) → old.verdict ≡ Running → IsTaken old.nodes place node
        → m.game.finished node.position ≡ false → MovesPlayed place node (slice_set old.nodes place (closed_node node)) number nodes
        → number < m.game.count → Overflows place node number nodes → new ≡ state nodes TableFull (old.steps + 1) → Step old new

  -- so many steps, one after another
  pub data Steps (old : State P) : ℕ → State P → Type 0 where
    none : Steps old 0 old
    next : {n : ℕ} {mid new : State P} → Steps old n mid → Step mid new → Steps old (suc n) new

  -- The start is stored with no moves made, and is open. If it is dead, nothing is stored, and there is no way.
  abbrev pub first_state : State P
  first_state = elim (m.lower_bound m.game.start) [ Some floor ↦ state (new_node m.game.start 0 0 0 floor ∷ []) Running 0 | None ↦ state [] Unsolvable 0 ]
