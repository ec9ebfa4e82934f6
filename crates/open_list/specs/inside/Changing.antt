-- What a change of an open list's numbers leaves. Assumes nothing.
use Rattle.std.specs.Prelude.{ℕ, ◌≡◌, List, [], ◌∷◌, ◌++◌, length, slice_set, true}
use Rattle.open_list.specs.declared.heap.Sizes.{Sizes}
use Rattle.open_list.specs.Entries.{Entry, entry, closed_entry}
use Rattle.open_list.specs.inside.Layout.{floor_of, place_in, entry_at, entries}
use Rattle.open_list.specs.inside.Sifting.{IsArranged}

-- numbers of the same length, for as many places, that are arranged and show these entries
pub record Leaves (old new : List ℕ) (before after : Sizes) (listed : List Entry) : Type 0 where
  pub arranged : IsArranged new after
  pub capacity : after.capacity ≡ before.capacity
  pub long : length new ≡ length old
  pub entries : entries new after.used ≡ listed

-- an open place more
abbrev pub Adds : ℕ → ℕ → List ℕ → List ℕ → Sizes → Sizes → Type 0
Adds depth floor old new before after =
    Leaves old new before after (entries old before.used ++ (entry depth floor true ∷ []))

-- a place with fewer moves, and open
abbrev pub Lowers : ℕ → ℕ → List ℕ → List ℕ → Sizes → Sizes → Type 0
Lowers place depth old new before after =
    Leaves old new before after (slice_set (entries old before.used) place (entry depth (floor_of old place) true))

-- the place of slot 0 closed
abbrev pub ClosesFirst : List ℕ → List ℕ → Sizes → Sizes → Type 0
ClosesFirst old new before after =
    let first = place_in old before.capacity 0 in
    Leaves old new before after (slice_set (entries old before.used) first (closed_entry (entry_at old first)))
