-- What the lines of a text make of the reader decides what the text is read as.
use Rattle.std.proofs.Common.{◌≡◌, List, true, Err, Result, ℕ, sym, ap, ◌∙◌}
use Rattle.std.proofs.lemmas.Result.{err_from_is_err_and}
use Rattle.refusals.specs.declared.Refusal.{Refusal}
use Rattle.refusals.specs.declared.Fault.TheVariants.{NotText}
use Rattle.refusals.specs.Refusals.{refusal}
use Rattle.text.specs.Lines.{Reading, is_text, split, end_result, read_text}
use Rattle.text.specs.Reading.{ReadsLines, map_ok, map_reading}
use Rattle.text.specs.LevelReading.{Grammar, after_line, at_end, read_level}
use Rattle.text.proofs.Taking.{text_reads_view}
use Rattle.text.proofs.level_reader.read_level.Goals as goal

read : {S V L : Type 0} (grammar : Grammar V L) (view : S → V) (start : S) → view start ≡ grammar.start → (text : List ℕ) (r : Result (Reading S) Refusal) → true ≡ is_text text
    → ReadsLines (λ s n l t. map_ok view t ≡ after_line grammar (view s) n l) start 1 (split text) r → end_result (at_end grammar) (map_reading view r) ≡ read_level grammar text
read grammar view start begins text r is reads =
    text_reads_view _ (after_line grammar) view (λ s n l t takes. takes) (at_end grammar) (refusal NotText 0) start text r (sym is) reads
    ∙ ap (λ v. read_text (after_line grammar) (at_end grammar) v (refusal NotText 0) text) begins

pub returns-in_err-reader : goal.returns-in_err-reader
returns-in_err-reader g c =
    let level = g.R.LevelReader in
    let p = err_from_is_err_and c.from_residual.result c.from_residual.ensures.1 in
    ap (map_ok level.value) (p.1 ∙ ap Err p.2)
    ∙ read level.grammar (λ s. level.view s.0) _ c.start.ensures c.args.text.now _ (sym c.if-not-is_text.false ∙ c.is_text.ensures) c.in_err-reader.ensures

pub returns : goal.returns
returns g c =
    let level = g.R.LevelReader in
    c.finish.ensures
    ∙ read level.grammar (λ s. level.view s.0) _ c.start.ensures c.args.text.now _ (sym c.if-not-is_text.false ∙ c.is_text.ensures) c.in_ok-reader.ensures
