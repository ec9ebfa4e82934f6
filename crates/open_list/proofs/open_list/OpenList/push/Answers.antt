use Rattle.std.proofs.Common.{sym, arith}
use Rattle.std.proofs.lemmas.Bool.{le-ltb}
use Rattle.open_list.proofs.Lists.{length_entries}
use Rattle.open_list.proofs.open_list.OpenList.push.Goals as goal

pub returns-then-self-clause-room : goal.returns-then-self-clause-room
returns-then-self-clause-room c =
    let numbers = c.self.inside.heap.numbers.now in
    rw (← c.self.view_is) (sym (le-ltb _ _ (omega (arith, length_entries numbers c.self.inside.sizes.used))))
