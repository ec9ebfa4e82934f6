use Rattle.std.proofs.Common.{sym, ap, ◌∙◌, rules, tests}
use Rattle.std.specs.List.{find}
use Rattle.std.specs.Str.{bytes_eq}
use Rattle.std.specs.Array.Iter.{array_into_iter_items, array_steps}
use Rattle.std.proofs.lemmas.Iterator.Adapters.{option_map_id}
use Rattle.std.proofs.lemmas.Iterator.Search.{find_from_yields_List}
use Rattle.std.proofs.lemmas.Iterator.Consumers.{YieldsList-from_shown}
use Rattle.grid.specs.declared.Direction.{Direction}
use Rattle.grid.specs.Grid.{word_of}
use Rattle.grid.proofs.DirectionTryFromRefSliceU8.try_from.Goals as goal

pub returns : goal.returns
returns c =
    let spells = λ (d : Direction). bytes_eq c.args.word.now (word_of d) in
    let listed = YieldsList-from_shown (array_steps {A = Direction} {n = 4}) (λ d. d) array_into_iter_items (λ s t h. h.0) (λ s d t h. h) c.into_iter.result in
    let found = find_from_yields_List spells _ _ c.find.result c.find.ensures.ran listed (λ d b q k. search (rules, tests)) in
    sym c.ok_or.ensures.ok_part
    ∙ sym (option_map_id c.find.result)
    ∙ found
    ∙ ap (find spells) c.into_iter.ensures.into_iter_gives.0
