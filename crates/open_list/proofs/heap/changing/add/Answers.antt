use Rattle.std.proofs.Common.{◌<◌, arith}
use Rattle.open_list.proofs.Changes.{added_rises, added_leaves}
use Rattle.open_list.proofs.heap.changing.add.Goals as goal

pub sift_up-requires : goal.sift_up-requires
sift_up-requires c =
    let small : c.args.floor < 65536 = omega arith in
    added_rises _ _ c.requires.arranged _ _ small c.requires.room _ _ c.set_depth.ensures c.set_floor.ensures

pub returns : goal.returns
returns c =
    let small : c.args.floor < 65536 = omega arith in
    added_leaves _ _ c.requires.arranged _ _ small c.requires.room _ _ c.set_depth.ensures c.set_floor.ensures _ c.sift_up.ensures
