use Rattle.open_list.proofs.Sifts.{step_up, end_up}
use Rattle.open_list.proofs.heap.sifting.sift_up.Goals as goal

pub loop-later-preserved : goal.loop-later-preserved
loop-later-preserved c =
    let known = c.loop-later.invariant in
    let step = step_up _ _ _ _ _ _ _ known.own known.kept known.rising _ c.in-Some.ensures c.put.ensures in
    record { rising = step.0; kept = step.1; own = known.own }

pub returns : goal.returns
returns c =
    let known = c.loop-later.invariant in
    end_up _ _ _ _ _ _ _ known.own known.kept known.rising c.in_default.ensures c.put-2.ensures
