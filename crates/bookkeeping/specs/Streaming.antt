-- The same from streams to a stream. Assumes nothing.
use Rattle.std.specs.Prelude.{ℕ, List, IfSome}
use Rattle.std.specs.Io.KnownBytes.{Appends}
use Rattle.std.specs.declared.option.Option.{Option}
use Rattle.bookkeeping.specs.Answers.{AnswersFill, AnswersSize, AnswersTest}

-- the output has gained an answer
abbrev pub Gains : Option (List ℕ) → Option (List ℕ) → (List ℕ → Type 0) → Type 0
Gains old new Is = (answer : List ℕ) × Is answer × Appends old new answer

-- to all that the inputs gave
abbrev pub FillsAll : Option (List ℕ) → Option (List ℕ) → Option (List ℕ) → Type 0
FillsAll level old new = IfSome level (λ text. Gains old new (AnswersFill text))

abbrev pub SizesAll : Option (List ℕ) → Option (List ℕ) → Option (List ℕ) → Type 0
SizesAll level old new = IfSome level (λ text. Gains old new (AnswersSize text))

abbrev pub TestsAll : Option (List ℕ) → Option (List ℕ) → Option (List ℕ) → Option (List ℕ) → Type 0
TestsAll level book old new = IfSome level (λ text. IfSome book (λ bytes. Gains old new (AnswersTest text bytes)))
