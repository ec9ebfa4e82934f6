use Rattle.std.proofs.Common.{sym, ◌∙◌}
use Rattle.slides.proofs.Resting.{step_less, step_on, step_last, rests_exactly, slides_exactly}
use Rattle.slides.proofs.sliding.slide.Goals as goal

pub loop-next-smaller : goal.loop-next-smaller
loop-next-smaller c = step_less _ _ _ _ _ _ (sym c.free_neighbour.ensures ∙ c.in-Some.is)

pub loop-next-preserved : goal.loop-next-preserved
loop-next-preserved c = step_on _ _ _ _ _ _ (sym c.free_neighbour.ensures ∙ c.in-Some.is) ∙ c.loop-next.invariant

pub returns-clause-rests : goal.returns-clause-rests
returns-clause-rests c =
    sym (step_last _ _ _ _ _ (sym c.free_neighbour.ensures ∙ c.in_default.is)) ∙ c.loop-next.invariant

pub returns-clause-exactly : goal.returns-clause-exactly
returns-clause-exactly c = rests_exactly _ _ _ _ _

pub returns-clause-slides : goal.returns-clause-slides
returns-clause-slides c = slides_exactly _ _ _ _ _
