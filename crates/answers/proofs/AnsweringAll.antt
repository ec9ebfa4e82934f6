-- What is written of a text answers what was given. Assumes nothing.
use Rattle.std.proofs.Common.{◌≡◌, ℕ, List, None, Some, IfSome, OnOk, Ok, Err, Result, subst}
use Rattle.std.specs.Io.KnownBytes.{Appends}
use Rattle.std.specs.declared.option.Option.{Option}
use Rattle.answers.specs.Answers.{Answers}
use Rattle.answers.specs.Streaming.{AnswersAll}

module _ (old new : Option (List ℕ)) (text answer : List ℕ) where
  answers_given : (input : Option (List ℕ)) → IfSome input (λ given. text ≡ given) → Answers text answer → Appends old new answer → AnswersAll input old new
  answers_given None of_input answers writes = tt
  answers_given (Some given) of_input answers writes = (answer, subst (λ t. Answers t answer) of_input answers, writes)

  -- `seen` is the text as the answer's call was given it
  pub answers_all : {T E : Type 0} (seen : List ℕ) (input : Option (List ℕ)) (written : Result T E) → IfSome input (λ given. text ≡ given) → seen ≡ text → Answers seen answer
      → OnOk written (Appends old new answer) → OnOk written (AnswersAll input old new)
  answers_all seen input (Ok x) of_input whole answers writes = answers_given input of_input (subst (λ t. Answers t answer) whole answers) writes
  answers_all seen input (Err e) of_input whole answers writes = tt
