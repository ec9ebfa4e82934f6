use Rattle.std.proofs.Common.{◌<◌, arith}
use Rattle.open_list.specs.inside.Layout.{entry_at}
use Rattle.open_list.proofs.Lists.{entry_there}
use Rattle.open_list.proofs.open_list.OpenList.close_first.Goals as goal

pub returns-clause-after : goal.returns-clause-after
returns-clause-after c =
    let some : 0 < c.self.inside.sizes.queued = omega arith in
    let leaves = c.close_first-self-inside.ensures in
    rw (← c.self.view_is, c.first-place.ensures)
    (entry_at c.self.inside.heap.numbers.now _, entry_there _ _ _ (c.self.invariant.slots 0 some).0, record { entries = leaves.entries; capacity = leaves.capacity; numbers = leaves.long })
