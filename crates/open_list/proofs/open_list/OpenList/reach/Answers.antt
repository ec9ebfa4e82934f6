use Rattle.open_list.specs.inside.Layout.{entry_at}
use Rattle.open_list.proofs.Lists.{entry_there}
use Rattle.open_list.proofs.open_list.OpenList.reach.Goals as goal

pub returns-clause-after : goal.returns-clause-after
returns-clause-after c =
    let leaves = c.lower-self-inside.ensures in
    rw (← c.self.view_is)
    (entry_at c.self.inside.heap.numbers.now _, entry_there _ _ _ c.if-place-self.false, record { entries = leaves.entries; capacity = leaves.capacity; numbers = leaves.long })
