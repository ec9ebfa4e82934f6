-- A place is moved into the hole of a heap, or the held place fills it. Assumes nothing.
use Rattle.std.proofs.Common.{◌≡◌, ◌≢◌, ℕ, ◌<◌, ◌≤◌, List, ap, sym, ◌∙◌, arith, ⊎_elim}
use Rattle.std.proofs.lemmas.Bool.{cases_eq}
use Rattle.open_list.specs.declared.heap.Sizes.{Sizes}
use Rattle.open_list.specs.inside.Layout.{slot_of, place_in, no_slot, above}
use Rattle.open_list.specs.inside.Sifting.{HasRoom, IsOrdered, HasHole, MayRise, MaySink, Puts}

-- a put place leaves room and lower bounds
has_room_put : (s : Sizes) (slot place : ℕ) (old new : List ℕ) → HasRoom old s → Puts s.capacity slot place old new → HasRoom new s
has_room_put s slot place old new has_room put = record {
  few = has_room.few;
  room = omega (arith, has_room.room, put.long);
  in_use = has_room.in_use;
  in_heap = has_room.in_heap;
  floors = λ i h. omega (arith, has_room.floors i h, has_room.in_use, put.floors i (omega (arith, has_room.in_use)));
}

module _ (key : ℕ → ℕ) (s : Sizes) (hole held : ℕ) (old new : List ℕ) (before : HasHole key old s hole held) where
  abbrev pub at_old : ℕ → ℕ
  at_old = place_in old s.capacity

  abbrev pub at_new : ℕ → ℕ
  at_new = place_in new s.capacity

  -- a used place is below the capacity
  within : (i : ℕ) → i < s.used → i < s.capacity
  within i h = omega (arith, before.has_room.in_use)

  module _ (put : Puts s.capacity hole held old new) where
    -- each slot has its place
    slots_filled : (j : ℕ) → j < s.queued → (at_new j < s.used) × (slot_of new (at_new j) ≡ j)
    slots_filled j h = ⊎_elim at_hole elsewhere (cases_eq j hole)
      where
        at_hole : j ≡ hole → (at_new j < s.used) × (slot_of new (at_new j) ≡ j)
        at_hole e =
            let here : at_new j ≡ held = ap at_new e ∙ put.there in
            (omega (arith, before.held_in), ap (slot_of new) here ∙ put.linked ∙ sym e)

        elsewhere : j ≢ hole → (at_new j < s.used) × (slot_of new (at_new j) ≡ j)
        elsewhere ne =
            let here : at_new j ≡ at_old j = put.slots j ne in
            let was = before.slots j h ne in
            (omega (arith, was.0), ap (slot_of new) here ∙ put.places (at_old j) (within _ was.0) was.1 ∙ was.2)

    -- each open place has its slot
    places_filled : (i : ℕ) → i < s.used → slot_of new i < no_slot → (slot_of new i < s.queued) × (at_new (slot_of new i) ≡ i)
    places_filled i h open_in = ⊎_elim is_held other (cases_eq i held)
      where
        is_held : i ≡ held → (slot_of new i < s.queued) × (at_new (slot_of new i) ≡ i)
        is_held e =
            let here : slot_of new i ≡ hole = ap (slot_of new) e ∙ put.linked in
            (omega (arith, before.hole_in), ap at_new here ∙ put.there ∙ sym e)

        other : i ≢ held → (slot_of new i < s.queued) × (at_new (slot_of new i) ≡ i)
        other ne =
            let here : slot_of new i ≡ slot_of old i = put.places i (within i h) ne in
            let was = before.places i h ne (omega arith) in
            (omega (arith, was.0), ap at_new here ∙ put.slots (slot_of old i) was.1 ∙ was.2)

    -- the held place stands between what is above and what is below it
    order_filled : (0 < hole → key (at_old (above hole)) ≤ key held) → ((j : ℕ) → 0 < j → j < s.queued → above j ≡ hole → key held ≤ key (at_old j)) → (j : ℕ) → 0 < j → j < s.queued → key (at_new (above j)) ≤ key (at_new j)
    order_filled over below j some h = ⊎_elim at_hole elsewhere (cases_eq j hole)
      where
        at_hole : j ≡ hole → key (at_new (above j)) ≤ key (at_new j)
        at_hole e =
            let apart : above j ≢ hole = λ (q : above j ≡ hole). omega arith in
            let upper = ap key (put.slots (above j) apart) in
            let lower : key (at_new j) ≡ key held = ap key (ap at_new e ∙ put.there) in
            let same : key (at_old (above j)) ≡ key (at_old (above hole)) = ap (λ k. key (at_old (above k))) e in
            omega (arith, over (omega arith), upper, lower, same)

        elsewhere : j ≢ hole → key (at_new (above j)) ≤ key (at_new j)
        elsewhere ne =
            let lower = ap key (put.slots j ne) in
            ⊎_elim
            (λ (e : above j ≡ hole).
            let upper : key (at_new (above j)) ≡ key held = ap key (ap at_new e ∙ put.there) in
            omega (arith, below j some h e, upper, lower))
            (λ (apart : above j ≢ hole).
            omega (arith, before.order j some h ne apart, ap key (put.slots (above j) apart), lower))
            (cases_eq (above j) hole)

    -- where the held place may stand over and under what is there, the heap is whole
    pub filled : (0 < hole → key (at_old (above hole)) ≤ key held) → ((j : ℕ) → 0 < j → j < s.queued → above j ≡ hole → key held ≤ key (at_old j)) → IsOrdered key new s
    filled over below = record {
      has_room = has_room_put s hole held old new before.has_room put;
      slots = slots_filled;
      places = places_filled;
      order = order_filled over below;
    }

  -- the place of another slot is put into the hole, and that slot is the hole then
  module _ (from : ℕ) (from_in : from < s.queued) (apart : from ≢ hole) (put : Puts s.capacity hole (at_old from) old new) where
    abbrev moved : ℕ
    moved = at_old from

    moved_is : (moved < s.used) × (moved ≢ held) × (slot_of old moved ≡ from)
    moved_is = before.slots from from_in apart

    slots_moved : (j : ℕ) → j < s.queued → j ≢ from → (at_new j < s.used) × (at_new j ≢ held) × (slot_of new (at_new j) ≡ j)
    slots_moved j h ne = ⊎_elim at_hole elsewhere (cases_eq j hole)
      where
        at_hole : j ≡ hole → (at_new j < s.used) × (at_new j ≢ held) × (slot_of new (at_new j) ≡ j)
        at_hole e =
            let here : at_new j ≡ moved = ap at_new e ∙ put.there in
            (omega (arith, moved_is.0), λ q. moved_is.1 (sym here ∙ q), ap (slot_of new) here ∙ put.linked ∙ sym e)

        elsewhere : j ≢ hole → (at_new j < s.used) × (at_new j ≢ held) × (slot_of new (at_new j) ≡ j)
        elsewhere far =
            let here : at_new j ≡ at_old j = put.slots j far in
            let was = before.slots j h far in
            let differs : at_old j ≢ moved = λ q. ne (sym was.2 ∙ ap (slot_of old) q ∙ moved_is.2) in
            (omega (arith, was.0), λ q. was.1 (sym here ∙ q), ap (slot_of new) here ∙ put.places (at_old j) (within _ was.0) differs ∙ was.2)

    places_moved : (i : ℕ) → i < s.used → i ≢ held → slot_of new i < no_slot → (slot_of new i < s.queued) × (slot_of new i ≢ from) × (at_new (slot_of new i) ≡ i)
    places_moved i h ne open_in = ⊎_elim is_moved other (cases_eq i moved)
      where
        is_moved : i ≡ moved → (slot_of new i < s.queued) × (slot_of new i ≢ from) × (at_new (slot_of new i) ≡ i)
        is_moved e =
            let here : slot_of new i ≡ hole = ap (slot_of new) e ∙ put.linked in
            (omega (arith, before.hole_in), λ q. apart (sym q ∙ here), ap at_new here ∙ put.there ∙ sym e)

        other : i ≢ moved → (slot_of new i < s.queued) × (slot_of new i ≢ from) × (at_new (slot_of new i) ≡ i)
        other far =
            let here : slot_of new i ≡ slot_of old i = put.places i (within i h) far in
            let was = before.places i h ne (omega arith) in
            (omega (arith, was.0), λ q. far (sym was.2 ∙ ap at_old (sym here ∙ q)), ap at_new here ∙ put.slots (slot_of old i) was.1 ∙ was.2)

    -- the rest of the order is that of the direction
    has_hole_moved : ((j : ℕ) → 0 < j → j < s.queued → j ≢ from → above j ≢ from → key (at_new (above j)) ≤ key (at_new j)) → ((j : ℕ) → 0 < j → j < s.queued → above j ≡ from → 0 < from → key (at_new (above from)) ≤ key (at_new j)) → HasHole key new s from held
    has_hole_moved order around = record {
      has_room = has_room_put s hole moved old new before.has_room put;
      hole_in = from_in;
      held_in = before.held_in;
      slots = slots_moved;
      places = places_moved;
      order = order;
      around = around;
    }

module _ (key : ℕ → ℕ) (s : Sizes) (hole held : ℕ) (old new : List ℕ) where
  abbrev key_old : ℕ → ℕ
  key_old j = key (place_in old s.capacity j)

  abbrev key_new : ℕ → ℕ
  key_new j = key (place_in new s.capacity j)

  -- the place above the hole comes after the held one, and moves into it
  module _ (before : MayRise key old s hole held) (under : 0 < hole) (later : key held ≤ key_old (above hole)) (put : Puts s.capacity hole (place_in old s.capacity (above hole)) old new) where
    from_in : above hole < s.queued
    from_in = omega (arith, before.has_hole.hole_in)

    apart : above hole ≢ hole
    apart = λ q. omega arith

    here : key_new hole ≡ key_old (above hole)
    here = ap key put.there

    -- what was below that place still is
    under_moved : (j : ℕ) → 0 < j → j < s.queued → above j ≡ above hole → j ≢ hole → key_old (above hole) ≤ key_old j
    under_moved j some h e ne =
        let off : above j ≢ hole = λ q. apart (sym e ∙ q) in
        omega (arith, before.has_hole.order j some h ne off, ap key_old e)

    order_risen : (j : ℕ) → 0 < j → j < s.queued → j ≢ above hole → above j ≢ above hole → key_new (above j) ≤ key_new j
    order_risen j some h ne off =
        let far : j ≢ hole = λ q. off (ap above q) in
        ⊎_elim
        (λ (e : above j ≡ hole).
        omega (arith, before.has_hole.around j some h e under, ap key_new e, here, ap key (put.slots j far)))
        (λ (beside : above j ≢ hole).
        omega (arith, before.has_hole.order j some h far beside, ap key (put.slots (above j) beside), ap key (put.slots j far)))
        (cases_eq (above j) hole)

    around_risen : (j : ℕ) → 0 < j → j < s.queued → above j ≡ above hole → 0 < above hole → key_new (above (above hole)) ≤ key_new j
    around_risen j some h e more =
        let far : above (above hole) ≢ hole = λ q. omega arith in
        let upper = before.has_hole.order (above hole) more from_in apart far in
        ⊎_elim
        (λ (q : j ≡ hole). omega (arith, upper, ap key (put.slots (above (above hole)) far), ap key_new q, here))
        (λ (ne : j ≢ hole).
        omega (arith, upper, under_moved j some h e ne, ap key (put.slots (above (above hole)) far), ap key (put.slots j ne)))
        (cases_eq j hole)

    below_risen : (j : ℕ) → 0 < j → j < s.queued → above j ≡ above hole → key held ≤ key_new j
    below_risen j some h e =
        ⊎_elim
        (λ (q : j ≡ hole). omega (arith, later, ap key_new q, here))
        (λ (ne : j ≢ hole). omega (arith, later, under_moved j some h e ne, ap key (put.slots j ne)))
        (cases_eq j hole)

    pub risen : MayRise key new s (above hole) held
    risen = record {
      has_hole = has_hole_moved key s hole held old new before.has_hole (above hole) from_in apart put order_risen around_risen;
      below = below_risen;
    }

  -- of the places below the hole the one that comes first comes before the held one, and moves into it
  module _ (before : MaySink key old s hole held) (from : ℕ) (some : 0 < from) (from_in : from < s.queued) (under : above from ≡ hole) (earlier : key_old from ≤ key held) (first : (j : ℕ) → 0 < j → j < s.queued → above j ≡ hole → key_old from ≤ key_old j) (put : Puts s.capacity hole (place_in old s.capacity from) old new) where
    apart_down : from ≢ hole
    apart_down = λ q. omega arith

    here_down : key_new hole ≡ key_old from
    here_down = ap key put.there

    order_sunk : (j : ℕ) → 0 < j → j < s.queued → j ≢ from → above j ≢ from → key_new (above j) ≤ key_new j
    order_sunk j some_j h ne off = ⊎_elim at_hole elsewhere (cases_eq j hole)
      where
        at_hole : j ≡ hole → key_new (above j) ≤ key_new j
        at_hole e =
            let beside : above j ≢ hole = λ q. omega arith in
            omega (arith, before.has_hole.around from some from_in under (omega arith), ap key_new e, here_down, ap key (put.slots (above j) beside), ap (λ k. key_old (above k)) e)

        elsewhere : j ≢ hole → key_new (above j) ≤ key_new j
        elsewhere far =
            ⊎_elim
            (λ (e : above j ≡ hole). omega (arith, first j some_j h e, ap key_new e, here_down, ap key (put.slots j far)))
            (λ (beside : above j ≢ hole).
            omega (arith, before.has_hole.order j some_j h far beside, ap key (put.slots (above j) beside), ap key (put.slots j far)))
            (cases_eq (above j) hole)

    around_sunk : (j : ℕ) → 0 < j → j < s.queued → above j ≡ from → 0 < from → key_new (above from) ≤ key_new j
    around_sunk j some_j h e more =
        let far : j ≢ hole = λ q. omega arith in
        let beside : above j ≢ hole = λ q. apart_down (sym e ∙ q) in
        omega (arith, before.has_hole.order j some_j h far beside, ap key_old e, ap key_new under, here_down, ap key (put.slots j far))

    pub sunk : MaySink key new s from held
    sunk = record {
      has_hole = has_hole_moved key s hole held old new before.has_hole from from_in apart_down put order_sunk around_sunk;
      over = λ more. omega (arith, earlier, ap key_new under, here_down);
    }
