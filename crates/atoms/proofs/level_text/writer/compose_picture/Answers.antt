use Rattle.std.proofs.Common.{ap, ◌∙◌}
use Rattle.std.specs.Slice.Iter.{chunks_rest, chunks_size}
use Rattle.grid.specs.declared.Grid.{Grid}
use Rattle.atoms.proofs.LevelText.Writing.{owed_start, owed_more, owed_end}
use Rattle.atoms.proofs.level_text.writer.compose_picture.Goals as goal

pub loop-row-init : goal.loop-row-init
loop-row-init c =
    let chunks = c.chunks-row-items.ensures in
    let same = c.into_iter-row-iterator.ensures.into_iter_gives in
    owed_start _ c.args.picture.now _ _ _ (ap chunks_size same ∙ chunks.size ∙ c.from-width.ensures ∙ ap (λ (g : Grid). g.width) c.grid.ensures)
    (ap chunks_rest same ∙ chunks.rest ∙ c.cells.ensures)

pub loop-row-preserved : goal.loop-row-preserved
loop-row-preserved c =
    let step = c.in-Some.ensures.steps in
    rw step.0 (owed_more _ _ c.loop-row.invariant step.1.0 step.1.1 step.1.2 c.compose_row.ensures)

pub returns : goal.returns
returns c = owed_end c.loop-row.iterator.0 c.loop-row.invariant c.in-None.ensures.steps.1.0
