-- The report of a judgement from streams to a stream. Assumes nothing.
use Rattle.std.specs.Prelude.{ℕ, List, IfSome}
use Rattle.std.specs.Io.KnownBytes.{Appends}
use Rattle.std.specs.declared.option.Option.{Option}
use Rattle.judgement.specs.Judgement.{judgement_of_texts, report_text}

-- the output has gained the report of all that both inputs gave
abbrev pub ReportsAll : Option (List ℕ) → Option (List ℕ) → Option (List ℕ) → Option (List ℕ) → Type 0
ReportsAll level way old new =
    IfSome level (λ level. IfSome way (λ way. Appends old new (report_text (judgement_of_texts level way))))
