use Rattle.std.proofs.Common.{sym, refl, ◌∙◌}
use native.Mathlib.Numerals.{unary_clauses}
use Rattle.text.proofs.Pens.{writes_more, writes_as, leads_more, leads_as, leads_end}
use Rattle.tiles.proofs.LevelText.Writing.{spaced_more, spaced_all, cells_after_more, cells_after_all, row_text}
use Rattle.tiles.proofs.level_text.writer.compose_row.Goals as goal

pub loop-init : goal.loop-init
loop-init c = simp unary_clauses (record { wrote = λ _ w. w; rest = refl })

pub loop-preserved : goal.loop-preserved
loop-preserved c = record {
  wrote = leads_more (leads_more (leads_as (spaced_more _ _ _ c.loop-test.true) c.loop.invariant.wrote) c.put-in-loop.ensures.wrote) c.put_decimal.ensures.wrote;
  rest = cells_after_more _ _ _ c.loop-test.true ∙ c.loop.invariant.rest;
}

pub returns : goal.returns
returns c =
    let row = leads_end (leads_as (spaced_all _ _ _ c.loop-test.false) c.loop.invariant.wrote) in
    record {
      wrote = writes_as (sym (row_text _)) (writes_more c.put.ensures.wrote (writes_more row c.put-2.ensures.wrote));
      rest = cells_after_all _ _ _ c.loop-test.false ∙ c.loop.invariant.rest;
    }
