-- What an open list shows of its numbers, and how they are arranged. Assumes nothing.
use Rattle.open_list.specs.declared.open_list.OpenList.TheInside.{Inside}
use Rattle.open_list.specs.OpenList.{Queue}
use Rattle.open_list.specs.inside.Layout.{entries}
use Rattle.open_list.specs.inside.Sifting.{IsArranged}

abbrev pub queue_of : Inside → Queue
queue_of list = record {
  numbers = list.heap.numbers.now;
  capacity = list.sizes.capacity;
  entries = entries list.heap.numbers.now list.sizes.used;
}

abbrev pub IsHeap : Inside → Type 0
IsHeap list = IsArranged list.heap.numbers.now list.sizes
