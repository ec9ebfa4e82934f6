use Rattle.open_list.proofs.Sifts.{step_down, end_down}
use Rattle.open_list.proofs.heap.sifting.sift_down.Goals as goal

pub loop-below-preserved : goal.loop-below-preserved
loop-below-preserved c =
    let known = c.loop-below.invariant in
    let step = step_down _ _ _ _ _ _ _ known.own known.kept known.sinking _ _ c.in-Some.ensures c.place_in-earlier.ensures c.put.ensures in
    record { sinking = step.0; kept = step.1; own = known.own }

pub returns : goal.returns
returns c =
    let known = c.loop-below.invariant in
    end_down _ _ _ _ _ _ _ known.own known.kept known.sinking c.in_default.ensures c.put-2.ensures
