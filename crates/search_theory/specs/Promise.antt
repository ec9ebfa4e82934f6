-- The promise of a search, for every list of calls. Assumes nothing.
use Rattle.std.specs.Prelude.{◌≡◌, ℕ, ◌+◌, ◌*◌, ◌<◌, ◌≤◌, List, [], ◌∷◌, length, map, slice_get, Some, Ok, Err, Result}
use Rattle.refusals.specs.declared.Fault.{Fault}
use Rattle.puzzle.specs.Game.{Reached, Finishes, CanReach, Distinct}
use Rattle.puzzle.specs.Meaning.{Meaning}
use Rattle.search_theory.specs.declared.Verdict.{Verdict}
use Rattle.search_theory.specs.declared.Verdict.TheVariants.{Running, Solved, Unsolvable, TableFull}
use Rattle.search_theory.specs.declared.Advance.{Advance}
use Rattle.search_theory.specs.Nodes.{Node}
use Rattle.search_theory.specs.Steps.{State, Step}
use Rattle.search_theory.specs.Calls.{Search, new_search, Call, opening, advance, asking, recital, Advances, Recites, RecitesWay, Run, AllCallsFor}

-- the steps that the advances answered
abbrev pub total_steps : List Call → ℕ
total_steps [] = 0
total_steps (opening _ ∷ calls) = total_steps calls
total_steps (advance _ (Ok a) ∷ calls) = a.steps + total_steps calls
total_steps (advance _ (Err _) ∷ calls) = total_steps calls
total_steps (asking _ ∷ calls) = total_steps calls
total_steps (recital _ _ _ ∷ calls) = total_steps calls

-- the budgets of the advances that were not refused
abbrev pub total_budget : List Call → ℕ
total_budget [] = 0
total_budget (opening _ ∷ calls) = total_budget calls
total_budget (advance budget (Ok _) ∷ calls) = budget + total_budget calls
total_budget (advance _ (Err _) ∷ calls) = total_budget calls
total_budget (asking _ ∷ calls) = total_budget calls
total_budget (recital _ _ _ ∷ calls) = total_budget calls

module _ {P : Type 0} (m : Meaning P) where
  -- n legal moves finish, and no legal moves that finish are fewer
  pub record IsShortest (n : ℕ) : Type 0 where
    pub moves : List ℕ
    pub count : length moves ≡ n
    pub finish : Finishes m.game m.game.start moves
    pub least : (other : List ℕ) → Finishes m.game m.game.start other → n ≤ length other

  -- What a verdict says of the puzzle, over a table of so many places.
  abbrev pub Says : ℕ → Verdict → Type 0
  -- nothing is known yet
  Says places Running = Unit {0}
  -- solved in n: that is the length of a shortest way, and below the number of places
  Says places (Solved n) = IsShortest n × (n < places)
  -- no legal moves finish
  Says places Unsolvable = (moves : List ℕ) → Finishes m.game m.game.start moves → ⊥
  -- more positions can be reached than there are places
  Says places TableFull = CanReach m.game (places + 1)

-- M is how many move numbers the puzzle has: its constant.
module _ {P : Type 0} (m : Meaning P) (M : ℕ) where
  -- what holds of an opened search that calls for a puzzle led to
  pub record Right (calls : List Call) (s : Search P) (t : State P) : Type 0 where
    -- the verdict is true
    pub says : Says m s.places t.verdict
    -- solved in n: every recital with room for n gives n that finish
    pub recited : (n : ℕ) → t.verdict ≡ Solved n → (before after : List ℕ) (answer : Result ℕ Fault) → Recites m s before answer after → n ≤ length before
        → (answer ≡ Ok n) × RecitesWay m n before after
    -- the steps are those that the advances answered, and while it runs those that they were granted
    pub counted : t.steps ≡ total_steps calls
    pub spent : t.verdict ≡ Running → t.steps ≡ total_budget calls
    -- the positions that are held: all different, each of them reached, at most one for each place, and one and M for each step
    pub reached : (i : ℕ) (node : Node P) → slice_get t.nodes i ≡ Some node → Reached m.game node.position
    pub distinct : Distinct (map (λ (n : Node P). n.position) t.nodes)
    pub room : length t.nodes ≤ s.places
    pub few : length t.nodes ≤ 1 + M * t.steps
    -- the verdict is final when as many steps were taken as the places multiplied by themselves
    pub ends : t.verdict ≡ Running → t.steps < s.places * s.places
    -- an advance after a final verdict takes no steps
    pub idle : (t.verdict ≡ Running → ⊥) → (budget : ℕ) (answer : Advance) (last : Search P) → Advances m budget s (Ok answer) last → answer.steps ≡ 0
    -- no later call changes a final verdict or its steps
    pub final : (t.verdict ≡ Running → ⊥) → (later : List Call) (last : Search P) → Run m s later last → last ≡ s
    -- a step has one outcome
    pub fixed : (a b : State P) → Step m s.places t a → Step m s.places t b → a ≡ b

  -- For every list of calls for this puzzle on one search, new before the first.
  abbrev pub Promise : Type 0
  Promise = (places numbers : ℕ) (calls : List Call) (s : Search P) → Run m (new_search places numbers) calls s → (t : State P) → s.state ≡ Some t → Right calls s t

  -- These calls for this puzzle, and no others, were made on a search, and what is promised holds of it as it stands.
  pub record Stands (calls : List Call) (s : Search P) : Type 0 where
    pub all_calls : AllCallsFor m s
    pub latest : all_calls.calls ≡ calls
    pub right : (t : State P) → s.state ≡ Some t → Right calls s t

  -- a call for this puzzle, after calls for it alone
  abbrev pub StandsAfter : Search P → Call → Search P → Type 0
  StandsAfter old call new = (before : AllCallsFor m old) → Stands (call ∷ before.calls) new
