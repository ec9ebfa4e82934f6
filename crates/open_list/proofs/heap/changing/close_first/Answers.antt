use Rattle.open_list.proofs.Changes.{closed_sinks, closed_leaves, closed_empty}
use Rattle.open_list.proofs.heap.changing.close_first.Goals as goal

pub sift_down-requires : goal.sift_down-requires
sift_down-requires c = closed_sinks _ _ c.requires.arranged c.requires.some _ c.place_in-first.ensures _ c.close.ensures _ c.place_in-last.ensures c.if-fewer-gt0.true

pub returns-then-fewer-gt0 : goal.returns-then-fewer-gt0
returns-then-fewer-gt0 c = closed_leaves _ _ c.requires.arranged c.requires.some _ c.place_in-first.ensures _ c.close.ensures _ c.place_in-last.ensures c.if-fewer-gt0.true _ c.sift_down.ensures

pub returns-else-fewer-gt0 : goal.returns-else-fewer-gt0
returns-else-fewer-gt0 c = closed_empty _ _ c.requires.arranged c.requires.some _ c.place_in-first.ensures _ c.close.ensures c.if-fewer-gt0.false
