use Rattle.std.proofs.Common.{◌≤◌, length, rules, tests, arith}
use Rattle.std.proofs.lemmas.Iterator.{YieldsList-from_slice}
use Rattle.std.proofs.lemmas.Iterator.Consumers.{YieldsList-at, YieldsList-from_filter_map, YieldsList-from_enumerate, YieldsList-turn, YieldsList-end}
use Rattle.std.proofs.lemmas.List.{length_push}
use Rattle.pictures.specs.Cells.{label_in}
use Rattle.pictures.specs.Pictures.{shape}
use Rattle.atoms.specs.Board.{labels_of}
use Rattle.atoms.proofs.Roll.{label_turn, label_end, length_labels, fill_turn, fill_end}
use Rattle.atoms.proofs.level.making.labels_of.Goals as goal

pub loop-atom-preserved : goal.loop-atom-preserved
loop-atom-preserved c =
    let b = shape c.args.board.now in
    let turn = YieldsList-turn
    (YieldsList-at c.into_iter-atom-iterator.ensures.into_iter_gives
    (YieldsList-from_enumerate
    (YieldsList-at c.enumerate-atom-items.ensures.source
    (YieldsList-from_filter_map _ label_in (YieldsList-from_slice b.cells (cc)) c.filter_map-found.ensures.closure (λ x r q k. search (rules, tests))))
    c.enumerate-atom-items.ensures.count))
    c.loop-atom.yielded c.loop-atom.atom-iterator c.loop-atom.yielded_by _ _ _ c.in-Some.is c.next.ensures.steps in
    let few : length (labels_of b) ≤ 16 = omega (arith, length_labels b) in
    rw length_push (fill_turn (labels_of b) _ _ _ _ few c.loop-atom.invariant (label_turn b _ _ turn))

pub returns : goal.returns
returns c =
    let b = shape c.args.board.now in
    let end = YieldsList-end
    (YieldsList-at c.into_iter-atom-iterator.ensures.into_iter_gives
    (YieldsList-from_enumerate
    (YieldsList-at c.enumerate-atom-items.ensures.source
    (YieldsList-from_filter_map _ label_in (YieldsList-from_slice b.cells (cc)) c.filter_map-found.ensures.closure (λ x r q k. search (rules, tests))))
    c.enumerate-atom-items.ensures.count))
    c.loop-atom.yielded c.loop-atom.atom-iterator c.loop-atom.yielded_by _ _ c.in-None.is c.next.ensures.steps in
    fill_end (labels_of b) _ _ c.loop-atom.invariant (label_end b _ end.1)
