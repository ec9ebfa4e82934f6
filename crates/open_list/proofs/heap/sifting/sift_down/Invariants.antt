use Rattle.std.proofs.Common.{◌≡◌, ◌-◌}
use Rattle.open_list.specs.inside.Layout.{rank}
use Rattle.open_list.specs.inside.Sifting.{MaySink}
use Rattle.open_list.proofs.Sifts.{Kept}
use Rattle.open_list.proofs.heap.sifting.sift_down.Given as goal

abbrev pub invariant-loop-below : goal.invariant-loop-below
invariant-loop-below l = record {
  sinking : MaySink (rank l.fn.numbers) l.numbers l.sizes l.slot l.place;
  kept : Kept l.place l.fn.numbers l.numbers l.sizes;
  own : l.own ≡ rank l.fn.numbers l.place;
}

abbrev pub decreases-loop-below : goal.decreases-loop-below
decreases-loop-below l = l.sizes.queued - l.slot
