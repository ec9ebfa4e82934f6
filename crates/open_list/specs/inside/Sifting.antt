-- The order of the heap of an open list, and what is left to do while one place is moved in it. Assumes nothing.
use Rattle.std.specs.Prelude.{ℕ, ◌+◌, ◌*◌, ◌<◌, ◌≤◌, ◌≡◌, ◌≢◌, List, length, true, Some, None, Option}
use Rattle.open_list.specs.declared.heap.Sizes.{Sizes}
use Rattle.open_list.specs.Entries.{entry}
use Rattle.open_list.specs.inside.Layout.{depth_of, floor_of, slot_of, place_in, no_slot, above, entry_at, rank}

-- the numbers have room for the places, and the lower bounds are small
pub record HasRoom (numbers : List ℕ) (s : Sizes) : Type 0 where
  pub few : s.capacity ≤ 1048576
  pub room : 4 * s.capacity ≤ length numbers
  pub in_use : s.used ≤ s.capacity
  pub in_heap : s.queued ≤ s.used
  pub floors : (i : ℕ) → i < s.used → floor_of numbers i < 65536

-- the slots of the heap from one on have places
abbrev pub PlacesFrom : ℕ → List ℕ → Sizes → Type 0
PlacesFrom slot numbers s = (j : ℕ) → slot ≤ j → j < s.queued → place_in numbers s.capacity j < s.capacity

-- each slot of the heap has the place of which it is the slot; and by the keys of places, none comes before the one above it
pub record IsOrdered (key : ℕ → ℕ) (numbers : List ℕ) (s : Sizes) : Type 0 where
  pub has_room : HasRoom numbers s
  pub slots : (j : ℕ) → j < s.queued → (place_in numbers s.capacity j < s.used) × (slot_of numbers (place_in numbers s.capacity j) ≡ j)
  pub places : (i : ℕ) → i < s.used → slot_of numbers i < no_slot → (slot_of numbers i < s.queued) × (place_in numbers s.capacity (slot_of numbers i) ≡ i)
  pub order : (j : ℕ) → 0 < j → j < s.queued → key (place_in numbers s.capacity (above j)) ≤ key (place_in numbers s.capacity j)

abbrev pub IsArranged : List ℕ → Sizes → Type 0
IsArranged numbers s = IsOrdered (rank numbers) numbers s

-- The same but for one slot, a hole, and one place, which is held and in no slot.
pub record HasHole (key : ℕ → ℕ) (numbers : List ℕ) (s : Sizes) (hole held : ℕ) : Type 0 where
  pub has_room : HasRoom numbers s
  pub hole_in : hole < s.queued
  pub held_in : held < s.used
  pub slots : (j : ℕ) → j < s.queued → j ≢ hole → (place_in numbers s.capacity j < s.used) × (place_in numbers s.capacity j ≢ held) × (slot_of numbers (place_in numbers s.capacity j) ≡ j)
  pub places : (i : ℕ) → i < s.used → i ≢ held → slot_of numbers i < no_slot → (slot_of numbers i < s.queued) × (slot_of numbers i ≢ hole) × (place_in numbers s.capacity (slot_of numbers i) ≡ i)
  pub order : (j : ℕ) → 0 < j → j < s.queued → j ≢ hole → above j ≢ hole → key (place_in numbers s.capacity (above j)) ≤ key (place_in numbers s.capacity j)
  pub around : (j : ℕ) → 0 < j → j < s.queued → above j ≡ hole → 0 < hole → key (place_in numbers s.capacity (above hole)) ≤ key (place_in numbers s.capacity j)

-- the held place may stand over what is below the hole
pub record MayRise (key : ℕ → ℕ) (numbers : List ℕ) (s : Sizes) (hole held : ℕ) : Type 0 where
  pub has_hole : HasHole key numbers s hole held
  pub below : (j : ℕ) → 0 < j → j < s.queued → above j ≡ hole → key held ≤ key (place_in numbers s.capacity j)

-- the held place may stand under what is above the hole
pub record MaySink (key : ℕ → ℕ) (numbers : List ℕ) (s : Sizes) (hole held : ℕ) : Type 0 where
  pub has_hole : HasHole key numbers s hole held
  pub over : 0 < hole → key (place_in numbers s.capacity (above hole)) ≤ key held

-- a place was put into a slot
pub record Puts (capacity slot place : ℕ) (old new : List ℕ) : Type 0 where
  pub long : length new ≡ length old
  pub there : place_in new capacity slot ≡ place
  pub slots : (j : ℕ) → j ≢ slot → place_in new capacity j ≡ place_in old capacity j
  pub linked : slot_of new place ≡ slot
  pub places : (i : ℕ) → i < capacity → i ≢ place → slot_of new i ≡ slot_of old i
  pub depths : (i : ℕ) → i < capacity → depth_of new i ≡ depth_of old i
  pub floors : (i : ℕ) → i < capacity → floor_of new i ≡ floor_of old i

-- the entries stand but for that of one place
pub record SameBut (place : ℕ) (old new : List ℕ) (used : ℕ) : Type 0 where
  pub long : length new ≡ length old
  pub others : (i : ℕ) → i < used → i ≢ place → entry_at new i ≡ entry_at old i

-- a place was sifted in: it is open, and the heap is arranged
pub record SiftsIn (place : ℕ) (old new : List ℕ) (s : Sizes) : Type 0 where
  pub arranged : IsArranged new s
  pub same : SameBut place old new s.used
  pub here : entry_at new place ≡ entry (depth_of old place) (floor_of old place) true

-- the place above a slot, if it comes after a rank
abbrev pub IsLaterAbove : List ℕ → ℕ → ℕ → ℕ → Option ℕ → Type 0
IsLaterAbove numbers capacity slot bound (Some place) = (0 < slot) × (place ≡ place_in numbers capacity (above slot)) × (bound < rank numbers place)
IsLaterAbove numbers capacity slot bound None = 0 < slot → rank numbers (place_in numbers capacity (above slot)) ≤ bound

-- of the slots of the heap from one on, up to the end, the one whose place comes first
pub record IsEarliest (numbers : List ℕ) (s : Sizes) (from end result : ℕ) : Type 0 where
  pub one_of : (from ≤ result) × (result < end) × (result < s.queued)
  pub first : (j : ℕ) → from ≤ j → j < end → j < s.queued → rank numbers (place_in numbers s.capacity result) ≤ rank numbers (place_in numbers s.capacity j)

-- of the slots below a slot the one whose place comes first, if that comes before a rank
abbrev pub IsEarlierBelow : List ℕ → Sizes → ℕ → ℕ → Option ℕ → Type 0
IsEarlierBelow numbers s slot bound (Some j) = IsEarliest numbers s (4 * slot + 1) (4 * slot + 5) j × (rank numbers (place_in numbers s.capacity j) < bound)
IsEarlierBelow numbers s slot bound None = (j : ℕ) → 0 < j → j < s.queued → above j ≡ slot → bound ≤ rank numbers (place_in numbers s.capacity j)
