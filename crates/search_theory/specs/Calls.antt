-- The calls of a search: what each of them answers, and what it leaves. Assumes nothing.
use Rattle.std.specs.Prelude.{◌≡◌, ℕ, ◌*◌, ◌≤◌, Bool, true, false, cond, ◌&&◌, ◌==◌, nat_le, List, [], ◌∷◌, ◌++◌, length, drop, Some, None, Option, Ok, Err, Result}
use Rattle.refusals.specs.declared.Fault.{Fault}
use Rattle.refusals.specs.Refusals.{fault}
use Rattle.puzzle.specs.Game.{Finishes}
use Rattle.puzzle.specs.Meaning.{Meaning}
use Rattle.search_theory.specs.declared.Verdict.{Verdict}
use Rattle.search_theory.specs.declared.Verdict.TheVariants.{Running, Solved, Unsolvable, TableFull}
use Rattle.search_theory.specs.declared.Advance.{Advance}
use Rattle.search_theory.specs.declared.Report.{Report}
use Rattle.search_theory.specs.Steps.{State, Steps, first_state}

-- a search over a table of some places and a list of some numbers
pub record Search (P : Type 0) : Type 0 where
  pub places : ℕ
  pub numbers : ℕ
  -- none until it is opened
  pub state : Option (State P)

abbrev pub new_search : {P : Type 0} → ℕ → ℕ → Search P
new_search places numbers = record { places = places; numbers = numbers; state = None }

abbrev pub with_state : {P : Type 0} → Search P → State P → Search P
with_state s t = record s { state = Some t }

-- Why a call is refused: the first that holds.

abbrev pub is_unopened : {P : Type 0} → Search P → Bool
is_unopened s = elim s.state [ Some t ↦ false | None ↦ true ]

abbrev pub open_refusal : {P : Type 0} → Search P → Option Fault
open_refusal s =
    cond (nat_le 1 s.places && nat_le s.places 1048576)
    (cond (s.numbers == 8 * s.places) (cond (is_unopened s) None (Some (fault 33))) (Some (fault 32)))
    (Some (fault 31))

abbrev pub advance_refusal : {P : Type 0} → Search P → ℕ → Option Fault
advance_refusal s budget = cond (is_unopened s) (Some (fault 34)) (cond (nat_le 1 budget) None (Some (fault 35)))

abbrev pub verdict_refusal : {P : Type 0} → Search P → Option Fault
verdict_refusal s = cond (is_unopened s) (Some (fault 34)) None

-- under a verdict; the moves go into a list of some places
abbrev pub recite_refusal_under : Verdict → ℕ → Option Fault
recite_refusal_under Running room = Some (fault 36)
recite_refusal_under (Solved n) room = cond (nat_le n room) None (Some (fault 37))
recite_refusal_under Unsolvable room = Some (fault 36)
recite_refusal_under TableFull room = Some (fault 36)

abbrev pub recite_refusal : {P : Type 0} → Search P → ℕ → Option Fault
recite_refusal s room = elim s.state [ Some t ↦ recite_refusal_under t.verdict room | None ↦ Some (fault 34) ]

-- what a refused call answers
abbrev pub refusal_in : {A : Type 0} → Result A Fault → Option Fault
refusal_in (Ok a) = None
refusal_in (Err e) = Some e

-- What holds of every advance, whatever puzzle it is handed: the search stays open, the steps are within the budget, and
-- after a final verdict there are none.
pub record AdvanceInvariant {P : Type 0} (budget : ℕ) (old : Search P) (answer : Advance) (new : Search P) : Type 0 where
  pub places : new.places ≡ old.places
  pub numbers : new.numbers ≡ old.numbers
  pub opened : is_unopened new ≡ false
  pub within : answer.steps ≤ budget
  pub final : (t : State P) → old.state ≡ Some t → (t.verdict ≡ Running → ⊥) → (new ≡ old) × (answer.steps ≡ 0)

-- a search is solved in n
abbrev pub IsSolved : {P : Type 0} → Search P → ℕ → Type 0
IsSolved {P} s n = (t : State P) × (s.state ≡ Some t) × (t.verdict ≡ Solved n)

-- where a search stands
abbrev pub report_of : {P : Type 0} → State P → Report
report_of t = record { verdict = t.verdict; steps = t.steps; places = length t.nodes }

-- asking for the verdict
abbrev pub Reports : {P : Type 0} → Search P → Result Report Fault → Type 0
Reports {P} s (Ok answer) = (t : State P) × (s.state ≡ Some t) × (answer ≡ report_of t)
Reports s (Err e) = verdict_refusal s ≡ Some e

module _ {P : Type 0} (m : Meaning P) where
  -- What the calls do for a puzzle. A refusal changes nothing.

  abbrev pub Opens : Search P → Result (Unit {0}) Fault → Search P → Type 0
  Opens old (Ok _) new = (open_refusal old ≡ None) × (new ≡ with_state old (first_state m old.places))
  Opens old (Err e) new = (open_refusal old ≡ Some e) × (new ≡ old)

  -- an advance takes its budget of steps, unless a final verdict ends it sooner
  pub record AdvancesBy (budget : ℕ) (old : Search P) (answer : Advance) (new : Search P) : Type 0 where
    pub granted : advance_refusal old budget ≡ None
    pub first : State P
    pub last : State P
    pub from : old.state ≡ Some first
    pub to : new ≡ with_state old last
    pub steps : Steps m old.places first answer.steps last
    pub within : answer.steps ≤ budget
    pub enough : (last.verdict ≡ Running) → answer.steps ≡ budget
    pub verdict : answer.verdict ≡ last.verdict

  abbrev pub Advances : ℕ → Search P → Result Advance Fault → Search P → Type 0
  Advances budget old (Ok answer) new = AdvancesBy budget old answer new
  Advances budget old (Err e) new = (advance_refusal old budget ≡ Some e) × (new ≡ old)

  -- n legal moves that finish stand at the front of the list, and the rest of it is as it was
  pub record RecitesWay (n : ℕ) (before after : List ℕ) : Type 0 where
    pub moves : List ℕ
    pub count : length moves ≡ n
    pub finish : Finishes m.game m.game.start moves
    pub written : after ≡ moves ++ drop n before

  abbrev pub Recites : Search P → List ℕ → Result ℕ Fault → List ℕ → Type 0
  Recites s before (Ok n) after = (recite_refusal s (length before) ≡ None) × IsSolved s n × RecitesWay n before after
  Recites s before (Err e) after = (recite_refusal s (length before) ≡ Some e) × (after ≡ before)

-- a call, with what it answered; of a recital also the list before and after it
pub data Call : Type 0 where
  opening : (answer : Result (Unit {0}) Fault) → Call
  advance : (budget : ℕ) → (answer : Result Advance Fault) → Call
  asking : (answer : Result Report Fault) → Call
  recital : (before : List ℕ) → (answer : Result ℕ Fault) → (after : List ℕ) → Call

module _ {P : Type 0} (m : Meaning P) where
  -- a call for a puzzle led from one search to another
  abbrev pub Happens : Search P → Call → Search P → Type 0
  Happens old (opening answer) new = Opens m old answer new
  Happens old (advance budget answer) new = Advances m budget old answer new
  Happens old (asking answer) new = Reports old answer × (new ≡ old)
  Happens old (recital before answer after) new = Recites m old before answer after × (new ≡ old)

  -- the calls, of which the latest comes first, led from one search to another
  pub data Run (first : Search P) : List Call → Search P → Type 0 where
    none : Run first [] first
    then : {calls : List Call} {call : Call} {mid last : Search P} → Run first calls mid → Happens mid call last → Run first (call ∷ calls) last

  -- all calls so far were for this puzzle
  pub record AllCallsFor (s : Search P) : Type 0 where
    pub places : ℕ
    pub numbers : ℕ
    pub calls : List Call
    pub run : Run (new_search places numbers) calls s
