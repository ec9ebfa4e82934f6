use Rattle.std.proofs.Common.{◌+◌, ◌∷◌, map, drop, sym, ap, ◌∙◌}
use Rattle.std.proofs.lemmas.List.{at_drop_more, at_drop_all}
use Rattle.pictures.specs.declared.cell.Cell.TheVariants.{Wall}
use Rattle.pictures.specs.Cells.{symbol_of}
use Rattle.text.proofs.Pens.{writes_more, writes_as, leads_more, leads_as, leads_end}
use Rattle.atoms.proofs.LevelText.Writing.{line_text}
use Rattle.atoms.proofs.level_text.writer.compose_row.Goals as goal

pub loop-cell-preserved : goal.loop-cell-preserved
loop-cell-preserved c =
    let more = at_drop_more (map symbol_of) c.args.row.now _ Wall c.loop-cell-test.true ∙ ap (λ b. b ∷ map symbol_of (drop (c.loop-cell.cell-index + 1) c.args.row.now)) (sym c.from.ensures.drawn) in
    leads_more (leads_as more c.loop-cell.invariant) c.put-in-loop-cell.ensures.wrote

pub returns : goal.returns
returns c =
    let all = at_drop_all (map symbol_of) c.args.row.now _ c.loop-cell-test.false in
    let row = leads_end (leads_as all c.loop-cell.invariant) in
    writes_as (sym (line_text _ _))
    (writes_more c.put.ensures.wrote (writes_more c.put-2.ensures.wrote (writes_more c.put-3.ensures.wrote (writes_more row c.put-4.ensures.wrote))))
