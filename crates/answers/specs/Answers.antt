-- The answer to a level's text, and what it means for the level. Assumes nothing.
use Rattle.std.specs.Prelude.{◌≡◌, ℕ, List, Ok, Err, codes}
use Rattle.refusals.specs.Refusals.{refusal_line}
use Rattle.puzzle.specs.Meaning.{Meaning}
use Rattle.search_theory.specs.declared.Verdict.{Verdict}
use Rattle.search_theory.specs.declared.Verdict.TheVariants.{Running, Solved, Unsolvable, TableFull}
use Rattle.search_theory.specs.Steps.{State, Steps, first_state}
use Rattle.search_theory.specs.Promise.{Says}
use Rattle.levels.specs.Levels.{Rules, searched, read_level}
use Rattle.judgement.specs.Judgement.{judgement_by}

-- how many places the search's table has
abbrev pub places : ℕ
places = 2048

abbrev pub none_text : List ℕ
none_text = codes "(none)\n"

abbrev pub full_text : List ℕ
full_text = codes "(full)\n"

-- the steps of the search over the table end in this state
pub record Ends {P : Type 0} (m : Meaning P) (last : State P) : Type 0 where
  pub count : ℕ
  pub steps : Steps m places (first_state m places) count last
  pub final : last.verdict ≡ Running → ⊥

-- What the answer is, by the verdict.
abbrev pub Tells : Rules → Verdict → List ℕ → Type 0
-- a way of n moves that the judge accepts
Tells r (Solved n) answer = judgement_by r answer ≡ Ok n
-- `(none)`
Tells r Unsolvable answer = answer ≡ none_text
-- `(full)`
Tells r TableFull answer = answer ≡ full_text
-- no answer is given before the end
Tells r Running answer = ⊥

-- The answer for a level by its rules: it tells the verdict of the one state in which the steps of the search end. What
-- that means for the level: no way is shorter, there is none, or more positions can be reached than there are places.
pub record Settles (r : Rules) (answer : List ℕ) : Type 0 where
  pub last : State r.Position
  pub ends : Ends r.meaning last
  pub only : (other : State r.Position) → Ends r.meaning other → other ≡ last
  pub tells : Tells r last.verdict answer
  pub means : Says r.meaning places last.verdict

-- The answer to a text: for the level that it spells, by the rules of the puzzle that is searched for it, or the refusal
-- `(fault NUMBER LINE)`.
abbrev pub Answers : List ℕ → List ℕ → Type 0
Answers text answer =
    elim (read_level text) [
      | Ok l ↦ searched l (λ r. Settles r answer)
      | Err e ↦ answer ≡ refusal_line e
    ]
