use Rattle.std.proofs.Common.{◌<◌, ◌≤◌, arith}
use Rattle.open_list.specs.inside.Layout.{slot_of, no_slot}
use Rattle.open_list.proofs.Changes.{lowered_rises, lowered_opens, lowered_leaves}
use Rattle.open_list.proofs.heap.changing.lower.Goals as goal

pub sift_up-requires : goal.sift_up-requires
sift_up-requires c =
    let is_open : slot_of c.args.numbers.now c.args.place < no_slot = omega arith in
    rw c.slot_of-slot.ensures (lowered_rises _ _ c.requires.arranged _ _ c.requires.in_use c.requires.fewer _ c.set_depth.ensures is_open)

pub returns-then-slot : goal.returns-then-slot
returns-then-slot c =
    lowered_leaves _ _ c.requires.arranged _ _ c.requires.in_use c.requires.fewer _ c.set_depth.ensures _ _ c.sift_up.ensures

pub sift_up-requires-2 : goal.sift_up-requires-2
sift_up-requires-2 c =
    let shut : no_slot ≤ slot_of c.args.numbers.now c.args.place = omega arith in
    lowered_opens _ _ c.requires.arranged _ _ c.requires.in_use c.requires.fewer _ c.set_depth.ensures shut

pub returns : goal.returns
returns c =
    lowered_leaves _ _ c.requires.arranged _ _ c.requires.in_use c.requires.fewer _ c.set_depth.ensures _ _ c.sift_up-2.ensures
