-- What is answered to the text of an atom level, and to bytes as its book. Assumes nothing.
use Rattle.std.specs.Prelude.{◌≡◌, ℕ, List, ◌++◌, Ok, Err, codes, decimal}
use Rattle.refusals.specs.declared.Fault.{Fault}
use Rattle.refusals.specs.Refusals.{refusal, refusal_line}
use Rattle.atoms.specs.Level.{Atoms}
use Rattle.atoms.specs.LevelText.Reading.{read_level}
use Rattle.pattern_databases.specs.Layout.{book_length}
use Rattle.pattern_databases.specs.Books.{Filled, Passes, Fails}

abbrev pub passed_text : List ℕ
passed_text = codes "(passed)\n"

abbrev pub size_text : ℕ → List ℕ
size_text n = decimal n ++ codes "\n"

-- to the text of a level: what is due for the level, or its refusal `(fault NUMBER LINE)`
abbrev pub AnswersLevel : (Atoms → Type 0) → List ℕ → List ℕ → Type 0
AnswersLevel Due text answer = elim (read_level text) [ Ok l ↦ Due l | Err e ↦ answer ≡ refusal_line e ]

-- the bytes of the filled book
abbrev pub AnswersFill : List ℕ → List ℕ → Type 0
AnswersFill text answer = AnswersLevel (λ l. Filled l answer) text answer

-- how many bytes the book has
abbrev pub AnswersSize : List ℕ → List ℕ → Type 0
AnswersSize text answer = AnswersLevel (λ l. answer ≡ size_text (book_length l)) text answer

-- `(passed)`, where the bytes pass, and else `(fault NUMBER 0)`, by the first condition that they do not meet
pub data SaysTest (l : Atoms) (bytes answer : List ℕ) : Type 0 where
  passed : Passes l bytes → answer ≡ passed_text → SaysTest l bytes answer
  failed : (f : Fault) → Fails l bytes f → answer ≡ refusal_line (refusal f 0) → SaysTest l bytes answer

abbrev pub AnswersTest : List ℕ → List ℕ → List ℕ → Type 0
AnswersTest text bytes answer = AnswersLevel (λ l. SaysTest l bytes answer) text answer
