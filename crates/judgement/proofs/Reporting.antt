-- What is written of two texts is the report of what was given. Assumes nothing.
use Rattle.std.proofs.Common.{◌≡◌, ℕ, List, None, Some, IfSome, OnOk, Ok, Err, Result, ap, subst, ◌∙◌}
use Rattle.std.specs.Io.KnownBytes.{Appends}
use Rattle.std.specs.declared.option.Option.{Option}
use Rattle.judgement.specs.Judgement.{judgement_of_texts, report_text}
use Rattle.judgement.specs.Streaming.{ReportsAll}

module _ (old new : Option (List ℕ)) (level_text way_text report : List ℕ) where
  reports_given : (level way : Option (List ℕ)) → IfSome level (λ given. level_text ≡ given) → IfSome way (λ given. way_text ≡ given)
      → report ≡ report_text (judgement_of_texts level_text way_text) → Appends old new report → ReportsAll level way old new
  reports_given None way of_level of_way says writes = tt
  reports_given (Some l) None of_level of_way says writes = tt
  reports_given (Some l) (Some w) of_level of_way says writes =
      let same = ap (λ text. report_text (judgement_of_texts text way_text)) of_level ∙ ap (λ text. report_text (judgement_of_texts l text)) of_way in
      subst (Appends old new) (says ∙ same) writes

  pub reports_all : {T E : Type 0} (level way : Option (List ℕ)) (written : Result T E) → IfSome level (λ given. level_text ≡ given) → IfSome way (λ given. way_text ≡ given)
      → report ≡ report_text (judgement_of_texts level_text way_text) → OnOk written (Appends old new report) → OnOk written (ReportsAll level way old new)
  reports_all level way (Ok x) of_level of_way says writes = reports_given level way of_level of_way says writes
  reports_all level way (Err e) of_level of_way says writes = tt
