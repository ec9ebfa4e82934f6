-- What an open list is to those who use it, and what its calls do. Assumes nothing.
use Rattle.std.specs.Prelude.{◌≡◌, ℕ, ◌*◌, Bool, true, false, ◌&&◌, ◌==◌, List, [], ◌∷◌, ◌++◌, length, nat_le, nat_lt, slice_get, slice_set, Some, None, Option}
use Rattle.open_list.specs.Entries.{Entry, entry, closed_entry, nearer_entry}

-- the lent numbers, how many places there are, and the entries in the order in which they were added
pub record Queue : Type 0 where
  pub numbers : List ℕ
  pub capacity : ℕ
  pub entries : List Entry

-- four numbers for each place, and at most 1,048,576 places
abbrev pub fits : ℕ → List ℕ → Bool
fits capacity numbers = nat_le capacity 1048576 && (length numbers == 4 * capacity)

-- the same numbers, in length, for as many places, with these entries
pub record HasEntries (old new : Queue) (listed : List Entry) : Type 0 where
  pub entries : new.entries ≡ listed
  pub capacity : new.capacity ≡ old.capacity
  pub numbers : length new.numbers ≡ length old.numbers

-- what `start` leaves
abbrev pub Starts : ℕ → Queue → Bool → Queue → Type 0
Starts capacity old true new = (new.entries ≡ []) × (new.capacity ≡ capacity) × (length new.numbers ≡ length old.numbers)
Starts capacity old false new = new ≡ old

-- what `push` leaves: one open entry more
abbrev pub Pushes : ℕ → ℕ → Queue → Bool → Queue → Type 0
Pushes depth floor old true new = HasEntries old new (old.entries ++ (entry depth floor true ∷ []))
Pushes depth floor old false new = new ≡ old

-- whether a place is in use and was reached with more moves
abbrev pub is_nearer : ℕ → Option Entry → Bool
is_nearer depth (Some e) = nat_lt depth e.depth
is_nearer depth None = false

-- what `reach` leaves: an entry that was reached with fewer moves takes the smaller number, and is open
abbrev pub Reaches : ℕ → ℕ → Queue → Bool → Queue → Type 0
Reaches place depth old true new = (e : Entry) × (slice_get old.entries place ≡ Some e) × HasEntries old new (slice_set old.entries place (nearer_entry e depth))
Reaches place depth old false new = new ≡ old

-- what `close_first` leaves: the entry of the place that it answers is closed
abbrev pub Closes : Queue → Option ℕ → Queue → Type 0
Closes old (Some place) new = (e : Entry) × (slice_get old.entries place ≡ Some e) × HasEntries old new (slice_set old.entries place (closed_entry e))
Closes old None new = new ≡ old
