use Rattle.std.proofs.Common.{◌≡◌}
use Rattle.open_list.specs.inside.Layout.{rank}
use Rattle.open_list.specs.inside.Sifting.{MayRise}
use Rattle.open_list.proofs.Sifts.{Kept}
use Rattle.open_list.proofs.heap.sifting.sift_up.Given as goal

abbrev pub invariant-loop-later : goal.invariant-loop-later
invariant-loop-later l = record {
  rising : MayRise (rank l.fn.numbers) l.numbers l.sizes l.slot l.place;
  kept : Kept l.place l.fn.numbers l.numbers l.sizes;
  own : l.own ≡ rank l.fn.numbers l.place;
}

abbrev pub decreases-loop-later : goal.decreases-loop-later
decreases-loop-later l = l.slot
