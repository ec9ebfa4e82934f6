use Rattle.std.proofs.Common.{◌≡◌, ap, ◌∙◌, rules, tests}
use Rattle.std.specs.List.{list_all, range_with_len}
use Rattle.std.proofs.lemmas.Bool.Decides.{Decides-at}
use Rattle.std.proofs.lemmas.Iterator.Search.{all_from_yields_List}
use Rattle.pictures.specs.Pictures.{shape}
use Rattle.molecules.specs.Molecules.{molecule_shape}
use Rattle.molecules.proofs.Ranges.{shown, yields_shown}
use Rattle.molecules.proofs.Alike.{alike, alike_decides}
use Rattle.molecules.proofs.molecule.Molecule.has_labels_of.Goals as goal

pub returns : goal.returns
returns c =
    let b = shape c.args.board.now in
    let m = molecule_shape c.args.self.now in
    let letters : shown c.new.result ≡ range_with_len 65 26 = simp (c.new.ensures.start, c.new.ensures.end, c.new.ensures.exhausted) in
    let all = all_from_yields_List (alike b m) _ _ c.all.result c.all.ensures.ran (yields_shown c.new.result) (λ x t q k. search (rules, tests)) in
    let says = all ∙ ap (list_all (alike b m)) letters in
    record { says = says; decides = Decides-at _ _ says (alike_decides c.args.board.now c.args.self.now.picture) }
