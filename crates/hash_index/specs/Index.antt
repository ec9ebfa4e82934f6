-- What a hash index is to those who use it, and what its calls do. Assumes nothing.
use Rattle.std.specs.Prelude.{◌≡◌, ℕ, ◌*◌, ◌<◌, Bool, true, false, ◌&&◌, ◌==◌, ◌≢◌, List, [], ◌∷◌, ◌++◌, length, nat_le, slice_get, Some, None, Option}

-- the lent numbers, how many places there are, and the keys in the order in which they were added
pub record Index : Type 0 where
  pub numbers : List ℕ
  pub capacity : ℕ
  pub keys : List ℕ

-- three numbers for each place, and at most 1,048,576 places
abbrev pub fits : ℕ → List ℕ → Bool
fits capacity numbers = nat_le capacity 1048576 && (length numbers == 3 * capacity)

-- what `start` leaves
abbrev pub Starts : ℕ → Index → Bool → Index → Type 0
Starts capacity old true new = (new.keys ≡ []) × (new.capacity ≡ capacity) × (length new.numbers ≡ length old.numbers)
Starts capacity old false new = new ≡ old

-- what `push` leaves: one key more
pub record AddsKey (key : ℕ) (old new : Index) : Type 0 where
  pub keys : new.keys ≡ old.keys ++ (key ∷ [])
  pub capacity : new.capacity ≡ old.capacity
  pub numbers : length new.numbers ≡ length old.numbers

abbrev pub Pushes : ℕ → Index → Bool → Index → Type 0
Pushes key old true new = AddsKey key old new
Pushes key old false new = new ≡ old

-- the last place with a key, of those before place n
abbrev pub IsLast : List ℕ → ℕ → ℕ → Option ℕ → Type 0
IsLast keys n key (Some place) = (place < n) × (slice_get keys place ≡ Some key) × ((j : ℕ) → place < j → j < n → slice_get keys j ≢ Some key)
IsLast keys n key None = (j : ℕ) → j < n → slice_get keys j ≢ Some key

-- the last place before it with the same key; of a place that is not in use there is none
abbrev pub IsEarlier : List ℕ → ℕ → Option ℕ → Option ℕ → Type 0
IsEarlier keys place (Some key) earlier = IsLast keys place key earlier
IsEarlier keys place None earlier = earlier ≡ None
