-- Where the numbers of an open list lie. Assumes nothing.
use Rattle.std.specs.Prelude.{ℕ, ◌+◌, ◌*◌, ◌-◌, ◌/◌, List, map, slice_index, nat_lt}
use Rattle.std.specs.List.{range_with_len}
use Rattle.open_list.specs.Entries.{Entry, entry}

-- of each place in turn there are the moves made to it, its lower bound and its slot in the heap; behind them is the
-- heap, a place for each slot
unfoldable pub depth_of : List ℕ → ℕ → ℕ
depth_of numbers place = slice_index numbers (3 * place)

unfoldable pub floor_of : List ℕ → ℕ → ℕ
floor_of numbers place = slice_index numbers (3 * place + 1)

unfoldable pub slot_of : List ℕ → ℕ → ℕ
slot_of numbers place = slice_index numbers (3 * place + 2)

unfoldable pub place_in : List ℕ → ℕ → ℕ → ℕ
place_in numbers capacity slot = slice_index numbers (3 * capacity + slot)

-- the slot of a place that is closed
abbrev pub no_slot : ℕ
no_slot = 4294967295

-- the slot above a slot of the heap: four lie below each
abbrev pub above : ℕ → ℕ
above slot = (slot - 1) / 4

abbrev pub entry_at : List ℕ → ℕ → Entry
entry_at numbers place = entry (depth_of numbers place) (floor_of numbers place) (nat_lt (slot_of numbers place) no_slot)

-- the entries of the places that are in use
abbrev pub entries : List ℕ → ℕ → List Entry
entries numbers used = map (entry_at numbers) (range_with_len 0 used)

-- Of two open places the one of the lower rank comes first: by the sum, then by the lower bound, then by the place. Of
-- equal sums the one with the lesser lower bound has more moves made.
unfoldable pub rank : List ℕ → ℕ → ℕ
rank numbers place = ((depth_of numbers place + floor_of numbers place) * 65536 + floor_of numbers place) * 18446744073709551616 + place
