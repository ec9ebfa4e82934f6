-- What stands while a place is sifted, and how it ends. Assumes nothing.
use Rattle.std.proofs.Common.{◌≡◌, ◌≢◌, ℕ, ◌<◌, ◌≤◌, true, nat_lt, Some, None, List, refl, ap, sym, subst, ◌∙◌, arith, ◌⊎◌, inl, inr, ⊎_elim}
use Rattle.std.proofs.lemmas.Bool.{cases_eq, lt-ltb}
use Rattle.open_list.specs.declared.heap.Sizes.{Sizes}
use Rattle.open_list.specs.Entries.{Entry}
use Rattle.open_list.specs.inside.Layout.{depth_of, floor_of, slot_of, place_in, no_slot, above, entry_at, rank}
use Rattle.open_list.specs.inside.Sifting.{HasRoom, IsOrdered, MayRise, MaySink, Puts, SameBut, SiftsIn, IsLaterAbove, IsEarlierBelow}
use Rattle.open_list.proofs.Moves.{filled, risen, sunk}

-- an entry by its parts
pub entry_same : (old new : List ℕ) (i j : ℕ) → depth_of new j ≡ depth_of old i → floor_of new j ≡ floor_of old i → nat_lt (slot_of new j) no_slot ≡ nat_lt (slot_of old i) no_slot → entry_at new j ≡ entry_at old i
entry_same old new i j d f o = cc

pub rank_same : (old new : List ℕ) (i : ℕ) → depth_of new i ≡ depth_of old i → floor_of new i ≡ floor_of old i → rank new i ≡ rank old i
unfolding rank
rank_same old new i d f = cc

-- between a start and now the entries stand, and of the held place the moves made and the lower bound
pub record Kept (held : ℕ) (start now : List ℕ) (s : Sizes) : Type 0 where
  pub same : SameBut held start now s.used
  pub depth : depth_of now held ≡ depth_of start held
  pub floor : floor_of now held ≡ floor_of start held

module _ (held : ℕ) (start now : List ℕ) (s : Sizes) (kept : Kept held start now s) where
  -- so do ranks
  pub rank_kept : (i : ℕ) → i < s.used → rank now i ≡ rank start i
  rank_kept i h =
      ⊎_elim
      (λ (e : i ≡ held).
      ap (rank now) e ∙ rank_same start now held kept.depth kept.floor ∙ ap (rank start) (sym e))
      (λ (ne : i ≢ held).
      let same = kept.same.others i h ne in
      rank_same start now i (ap (λ (e : Entry). e.depth) same) (ap (λ (e : Entry). e.floor) same))
      (cases_eq i held)

  -- a heap that is in the order of the start is in the order of now
  pub arranged : IsOrdered (rank start) now s → IsOrdered (rank now) now s
  arranged o = record {
    has_room = o.has_room;
    slots = o.slots;
    places = o.places;
    order = λ j some h.
        let upper : above j < s.queued = omega arith in
        omega (arith, o.order j some h, rank_kept _ (o.slots (above j) upper).0, rank_kept _ (o.slots j h).0);
  }

  -- an open place, or the held one, was put into a slot of the heap
  module _ (slot place : ℕ) (new : List ℕ) (put : Puts s.capacity slot place now new) (has_room : HasRoom now s) (slot_in : slot < s.queued) (place_in_use : place < s.used) where
    pub kept_put : (place ≢ held → slot_of now place < no_slot) → held < s.used → Kept held start new s
    kept_put was_open held_in = record {
      same = record { long = put.long ∙ kept.same.long; others = λ i h ne. others i h ne (cases_eq i place) };
      depth = put.depths held (omega (arith, has_room.in_use)) ∙ kept.depth;
      floor = put.floors held (omega (arith, has_room.in_use)) ∙ kept.floor;
    }
      where
        openness : (i : ℕ) → i < s.used → i ≢ held → (i ≡ place) ⊎ (i ≢ place) → nat_lt (slot_of new i) no_slot ≡ nat_lt (slot_of now i) no_slot
        openness i h ne (inl e) =
            let after : slot_of new i < no_slot = omega (arith, ap (slot_of new) e, put.linked, slot_in, has_room.in_heap, has_room.in_use, has_room.few) in
            let before : slot_of now i < no_slot = omega (arith, ap (slot_of now) e, was_open (λ q. ne (e ∙ q))) in
            lt-ltb _ _ after ∙ sym (lt-ltb _ _ before)
        openness i h ne (inr far) = ap (λ k. nat_lt k no_slot) (put.places i (omega (arith, has_room.in_use)) far)

        others : (i : ℕ) → i < s.used → i ≢ held → (i ≡ place) ⊎ (i ≢ place) → entry_at new i ≡ entry_at start i
        others i h ne by =
            let inside : i < s.capacity = omega (arith, has_room.in_use) in
            entry_same now new i i (put.depths i inside) (put.floors i inside) (openness i h ne by) ∙ kept.same.others i h ne

-- the held place stands in the heap, and the heap is in order
pub sifted : (held slot : ℕ) (start now new : List ℕ) (s : Sizes) → Kept held start now s → HasRoom now s → slot < s.queued → held < s.used → Puts s.capacity slot held now new → IsOrdered (rank start) new s → SiftsIn held start new s
sifted held slot start now new s kept has_room slot_in held_in put o =
    let done = kept_put held start now s kept slot held new put has_room slot_in held_in (λ ne. absurd (ne refl)) held_in in
    let is_open : nat_lt (slot_of new held) no_slot ≡ true = lt-ltb _ _ (omega (arith, put.linked, slot_in, has_room.in_heap, has_room.in_use, has_room.few)) in
    record {
      arranged = arranged held start new s done o;
      same = done.same;
      here = cc (done.depth, done.floor, is_open);
    }

module _ (held slot : ℕ) (start now new : List ℕ) (s : Sizes) (bound : ℕ) (is_bound : bound ≡ rank start held) (kept : Kept held start now s) where
  abbrev at : ℕ → ℕ
  at = place_in now s.capacity

  -- one step up: the place above comes after the held one
  module _ (rising : MayRise (rank start) now s slot held) where
    known_up : (j : ℕ) → j < s.queued → j ≢ slot → rank now (at j) ≡ rank start (at j)
    known_up j h ne = rank_kept held start now s kept (at j) (rising.has_hole.slots j h ne).0

    pub step_up : (place : ℕ) → IsLaterAbove now s.capacity slot bound (Some place) → Puts s.capacity slot place now new → MayRise (rank start) new s (above slot) held × Kept held start new s
    step_up place later put =
        let up : above slot < s.queued = omega (arith, rising.has_hole.hole_in) in
        let apart : above slot ≢ slot = λ q. omega (arith, later.0) in
        let was = rising.has_hole.slots (above slot) up apart in
        let here : rank now place ≡ rank start (at (above slot)) = ap (rank now) later.1 ∙ known_up (above slot) up apart in
        let put_up : Puts s.capacity slot (at (above slot)) now new = subst (λ p. Puts s.capacity slot p now new) later.1 put in (
          risen (rank start) s slot held now new rising later.0 (omega (arith, later.2, is_bound)) put_up,
          kept_put held start now s kept slot (at (above slot)) new put_up rising.has_hole.has_room rising.has_hole.hole_in was.0 (λ _. omega (arith, was.2, rising.has_hole.has_room.in_heap, rising.has_hole.has_room.in_use, rising.has_hole.has_room.few, up)) rising.has_hole.held_in,
        )

    pub end_up : IsLaterAbove now s.capacity slot bound None → Puts s.capacity slot held now new → SiftsIn held start new s
    end_up none put =
        let over : 0 < slot → rank start (at (above slot)) ≤ rank start held = λ some. omega (arith, none some, known_up (above slot) (omega (arith, rising.has_hole.hole_in)) (λ q. omega arith), is_bound) in
        sifted held slot start now new s kept rising.has_hole.has_room rising.has_hole.hole_in rising.has_hole.held_in put (filled (rank start) s slot held now new rising.has_hole put over rising.below)

  -- one step down: of the places below the one that comes first comes before the held one
  module _ (sinking : MaySink (rank start) now s slot held) where
    known_down : (j : ℕ) → j < s.queued → j ≢ slot → rank now (at j) ≡ rank start (at j)
    known_down j h ne = rank_kept held start now s kept (at j) (sinking.has_hole.slots j h ne).0

    pub step_down : (from place : ℕ) → IsEarlierBelow now s slot bound (Some from) → place ≡ at from → Puts s.capacity slot place now new → MaySink (rank start) new s from held × Kept held start new s
    step_down from place earlier is_place put =
        let one = earlier.0.one_of in
        let apart : from ≢ slot = λ q. omega (arith, one) in
        let was = sinking.has_hole.slots from one.2 apart in
        let here : rank now (at from) ≡ rank start (at from) = known_down from one.2 apart in
        let put_down : Puts s.capacity slot (at from) now new = subst (λ p. Puts s.capacity slot p now new) is_place put in
        let first : (j : ℕ) → 0 < j → j < s.queued → above j ≡ slot → rank start (at from) ≤ rank start (at j) = λ j some h e.
        omega (arith, earlier.0.first j (omega arith) (omega arith) h, here, known_down j h (λ k. omega arith)) in (
          sunk (rank start) s slot held now new sinking from (omega (arith, one)) one.2 (omega (arith, one)) (omega (arith, earlier.1, here, is_bound)) first put_down,
          kept_put held start now s kept slot (at from) new put_down sinking.has_hole.has_room sinking.has_hole.hole_in was.0 (λ _. omega (arith, was.2, sinking.has_hole.has_room.in_heap, sinking.has_hole.has_room.in_use, sinking.has_hole.has_room.few, one.2)) sinking.has_hole.held_in,
        )

    pub end_down : IsEarlierBelow now s slot bound None → Puts s.capacity slot held now new → SiftsIn held start new s
    end_down none put =
        let below : (j : ℕ) → 0 < j → j < s.queued → above j ≡ slot → rank start held ≤ rank start (at j) = λ j some h e. omega (arith, none j some h e, known_down j h (λ q. omega arith), is_bound) in
        sifted held slot start now new s kept sinking.has_hole.has_room sinking.has_hole.hole_in sinking.has_hole.held_in put (filled (rank start) s slot held now new sinking.has_hole put sinking.over below)
