-- The answer from stream to stream. Assumes nothing.
use Rattle.std.specs.Prelude.{ℕ, List, IfSome}
use Rattle.std.specs.Io.KnownBytes.{Appends}
use Rattle.std.specs.declared.option.Option.{Option}
use Rattle.answers.specs.Answers.{Answers}

-- the output has gained the answer to all that the input gave
abbrev pub AnswersAll : Option (List ℕ) → Option (List ℕ) → Option (List ℕ) → Type 0
AnswersAll input old new = IfSome input (λ text. (answer : List ℕ) × Answers text answer × Appends old new answer)
