use Rattle.std.proofs.Common.{◌&&◌, refl, ◌∙◌, rules, tests}
use Rattle.std.specs.List.{list_all}
use Rattle.std.proofs.lemmas.Iterator.{YieldsList-from_slice}
use Rattle.std.proofs.lemmas.Iterator.Search.{all_from_yields_List}
use Rattle.std.proofs.lemmas.List.Recursion.{same_from_clauses}
use Rattle.text.specs.Lines.{text_byte, all_text}
use Rattle.text.proofs.line.all_text.Goals as goal

pub returns : goal.returns
returns c =
    all_from_yields_List text_byte _ _ _ c.all.ensures.ran (YieldsList-from_slice c.args.text.now cc) (λ x b q k. search (rules, tests))
    ∙ same_from_clauses (list_all text_byte) all_text (λ b rest. text_byte b && rest) refl (λ _ _. refl) (λ _ _. refl) c.args.text.now
