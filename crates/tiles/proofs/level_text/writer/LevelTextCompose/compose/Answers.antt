use Rattle.std.proofs.Common.{◌≡◌, sym, ap, ◌∙◌}
use native.Mathlib.Numerals.{unary_clauses}
use Rattle.grid.specs.declared.Grid.{Grid}
use Rattle.tiles.specs.Level.{tiles_of, tiles}
use Rattle.tiles.specs.LevelText.Writing.{level_text}
use Rattle.text.proofs.Pens.{writes_as, leads_start, leads_more, leads_as}
use Rattle.tiles.proofs.LevelText.Writing.{rows_text, rows_more, rows_all, head_text}
use Rattle.tiles.proofs.level_text.writer.LevelTextCompose.compose.Goals as goal

pub loop-init : goal.loop-init
loop-init c = simp unary_clauses (λ _ w. w)

pub loop-preserved : goal.loop-preserved
loop-preserved c =
    leads_as (ap (rows_text _ _) (sym c.compose_row-cells.ensures.rest))
    (leads_more (leads_as (rows_more _ _ _ _ c.loop-test.true) c.loop.invariant) c.compose_row-cells.ensures.wrote)

pub returns : goal.returns
returns c =
    let g = c.grid-grid.result in
    let p = c.start-cells.result in
    let level : tiles_of g.width g.height p ≡ tiles c.args.self.now.0.now =
    ap (λ (x : Grid). tiles_of x.width x.height p) c.grid-grid.ensures ∙ ap (tiles_of _ _) c.start-cells.ensures in
    let bracket = leads_more (leads_start (head_text g.width g.height p)) c.put.ensures.wrote in
    let keyword = leads_more (leads_more bracket c.put-2.ensures.wrote) c.put-3.ensures.wrote in
    let width = leads_more keyword c.put_decimal.ensures.wrote in
    let height = leads_more (leads_more width c.put-4.ensures.wrote) c.put_decimal-2.ensures.wrote in
    let head = leads_more height c.put-5.ensures.wrote in
    let rows = leads_as (rows_all _ _ _ _ c.loop-test.false) c.loop.invariant in
    writes_as (ap level_text level) (head _ (rows _ c.put-6.ensures.wrote))
