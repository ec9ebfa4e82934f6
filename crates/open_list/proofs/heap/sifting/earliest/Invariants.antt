use Rattle.std.proofs.Common.{◌≡◌}
use Rattle.open_list.specs.inside.Layout.{place_in, rank}
use Rattle.open_list.specs.inside.Sifting.{IsEarliest}
use Rattle.open_list.proofs.heap.sifting.earliest.Given as goal

abbrev pub invariant-loop-slot : goal.invariant-loop-slot
invariant-loop-slot l = record {
  earliest : IsEarliest l.numbers l.sizes l.from l.slot l.first;
  least : l.least ≡ rank l.numbers (place_in l.numbers l.sizes.capacity l.first);
}
