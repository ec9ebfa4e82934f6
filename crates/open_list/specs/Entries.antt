-- The entries of an open list, and which open one comes first. Assumes nothing.
use Rattle.std.specs.Prelude.{◌≡◌, ℕ, ◌+◌, ◌≤◌, Bool, true, false, List, slice_get, Some, None, Option}

-- what is kept of a place: the moves made to it, its lower bound, and whether it is open
pub record Entry : Type 0 where
  pub depth : ℕ
  pub floor : ℕ
  pub is_open : Bool

abbrev pub entry : ℕ → ℕ → Bool → Entry
entry depth floor is_open = record { depth = depth; floor = floor; is_open = is_open }

abbrev pub closed_entry : Entry → Entry
closed_entry e = entry e.depth e.floor false

-- an entry that was reached with so many moves, and is open
abbrev pub nearer_entry : Entry → ℕ → Entry
nearer_entry e depth = entry depth e.floor true

abbrev pub sum : Entry → ℕ
sum e = e.depth + e.floor

-- Of two open entries the one with the lesser sum comes first; of equals the one with more moves made, then the one of
-- the earlier place.
pub record Before (a : Entry) (i : ℕ) (b : Entry) (j : ℕ) : Type 0 where
  pub lesser : sum a ≤ sum b
  pub deeper : sum a ≡ sum b → b.depth ≤ a.depth
  pub earlier : sum a ≡ sum b → a.depth ≡ b.depth → i ≤ j

-- the open entry that comes before every other
pub record Foremost (entries : List Entry) (place : ℕ) : Type 0 where
  pub here : Entry
  pub there : slice_get entries place ≡ Some here
  pub is_open : here.is_open ≡ true
  pub first : (j : ℕ) (other : Entry) → slice_get entries j ≡ Some other → other.is_open ≡ true → Before here place other j

abbrev pub NoneOpen : List Entry → Type 0
NoneOpen entries = (j : ℕ) (e : Entry) → slice_get entries j ≡ Some e → e.is_open ≡ false

-- which place comes first, if one is open
abbrev pub IsFirst : List Entry → Option ℕ → Type 0
IsFirst entries (Some place) = Foremost entries place
IsFirst entries None = NoneOpen entries
