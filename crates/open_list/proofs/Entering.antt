-- What is to be sifted after the numbers of a place were written. Assumes nothing.
use Rattle.std.proofs.Common.{◌≡◌, ◌≢◌, ℕ, ◌+◌, ◌-◌, ◌<◌, ◌≤◌, false, nat_lt, List, ap, sym, ◌∙◌, arith, ⊎_elim}
use Rattle.std.proofs.lemmas.Bool.{cases_eq}
use Rattle.open_list.specs.declared.heap.Sizes.{Sizes}
use Rattle.open_list.specs.Entries.{closed_entry}
use Rattle.open_list.specs.inside.Layout.{depth_of, floor_of, slot_of, place_in, no_slot, above, entry_at, rank}
use Rattle.open_list.specs.inside.Sifting.{HasRoom, IsArranged, MayRise, MaySink}
use Rattle.open_list.proofs.Sifts.{entry_same, rank_same}
use Rattle.open_list.proofs.Writes.{Written}

module _ (old start : List ℕ) (s : Sizes) (a : IsArranged old s) (place depth floor slot : ℕ) (small : floor < 65536) (w : Written place s.capacity depth floor slot old start) where
  abbrev at : ℕ → ℕ
  at = place_in old s.capacity

  abbrev after : ℕ → ℕ
  after = place_in start s.capacity

  -- elsewhere ranks and entries stand
  rank_else : (i : ℕ) → i ≢ place → rank start i ≡ rank old i
  rank_else i ne = rank_same old start i (w.depths i ne) (w.floors i ne)

  pub entry_else : (i : ℕ) → i ≢ place → entry_at start i ≡ entry_at old i
  entry_else i ne = entry_same old start i i (w.depths i ne) (w.floors i ne) (ap (λ k. nat_lt k no_slot) (w.slots i ne))

  -- the rank of what is in a slot
  rank_at : (j : ℕ) → at j ≢ place → rank start (after j) ≡ rank old (at j)
  rank_at j ne = ap (rank start) (w.heap j) ∙ rank_else (at j) ne

  -- and its slot
  slot_at : (j : ℕ) → j < s.queued → at j ≢ place → slot_of start (after j) ≡ j
  slot_at j h ne = ap (slot_of start) (w.heap j) ∙ w.slots (at j) ne ∙ (a.slots j h).1

  has_room_after : (used queued : ℕ) → used ≤ s.capacity → queued ≤ used → ((i : ℕ) → i < used → i ≢ place → i < s.used) → HasRoom start (record { capacity = s.capacity; used = used; queued = queued })
  has_room_after used queued in_use in_heap rest = record {
    few = a.has_room.few;
    room = omega (arith, a.has_room.room, w.long);
    in_use = in_use;
    in_heap = in_heap;
    floors = λ i h. ⊎_elim
        (λ (e : i ≡ place). omega (arith, ap (floor_of start) e, w.floor))
        (λ (ne : i ≢ place). omega (arith, w.floors i ne, a.has_room.floors i (rest i h ne)))
        (cases_eq i place);
  }

  -- a place that is in no slot comes into a slot of its own, the last
  module _ (used : ℕ) (inside : place < used) (in_use : used ≤ s.capacity) (grown : s.used ≤ used) (rest : (i : ℕ) → i < used → i ≢ place → i < s.used) (room : s.queued + 1 ≤ used) (outside : (j : ℕ) → j < s.queued → at j ≢ place) where
    abbrev more : Sizes
    more = record { capacity = s.capacity; used = used; queued = s.queued + 1 }

    pub appended : MayRise (rank start) start (record { capacity = s.capacity; used = used; queued = s.queued + 1 }) s.queued place
    appended = record {
      has_hole = record {
        has_room = has_room_after used (s.queued + 1) in_use room rest;
        hole_in = omega arith;
        held_in = inside;
        slots = slots;
        places = places;
        order = order;
        around = λ j some h e more. absurd (omega arith);
      };
      below = λ j some h e. absurd (omega arith);
    }
      where
        slots : (j : ℕ) → j < s.queued + 1 → j ≢ s.queued → (after j < used) × (after j ≢ place) × (slot_of start (after j) ≡ j)
        slots j h ne =
            let before : j < s.queued = omega arith in
            (omega (arith, w.heap j, (a.slots j before).0), λ q. outside j before (sym (w.heap j) ∙ q), slot_at j before (outside j before))

        places : (i : ℕ) → i < used → i ≢ place → slot_of start i < no_slot → (slot_of start i < s.queued + 1) × (slot_of start i ≢ s.queued) × (after (slot_of start i) ≡ i)
        places i h ne is_open =
            let same = w.slots i ne in
            let was = a.places i (rest i h ne) (omega arith) in
            (omega (arith, was.0), λ q. omega (arith, was.0), w.heap (slot_of start i) ∙ ap at same ∙ was.1)

        order : (j : ℕ) → 0 < j → j < s.queued + 1 → j ≢ s.queued → above j ≢ s.queued → rank start (after (above j)) ≤ rank start (after j)
        order j some h ne apart =
            let before : j < s.queued = omega arith in
            let upper : above j < s.queued = omega arith in
            omega (arith, a.order j some before, rank_at j (outside j before), rank_at (above j) (outside (above j) upper))

  -- an open place of a lower rank comes into its slot again, or above it
  module _ (inside : place < s.used) (is_open : slot_of old place < no_slot) (lower : rank start place ≤ rank old place) where
    apart_from : (j : ℕ) → j < s.queued → j ≢ slot_of old place → at j ≢ place
    apart_from j h ne = λ q. ne (sym (a.slots j h).1 ∙ ap (slot_of old) q)

    its_slot : (slot_of old place < s.queued) × (at (slot_of old place) ≡ place)
    its_slot = a.places place inside is_open

    pub raised : MayRise (rank start) start s (slot_of old place) place
    raised = record {
      has_hole = record {
        has_room = has_room_after s.used s.queued a.has_room.in_use a.has_room.in_heap (λ i h ne. h);
        hole_in = its_slot.0;
        held_in = inside;
        slots = slots;
        places = places;
        order = λ j some h ne apart. omega (arith, a.order j some h, rank_at j (apart_from j h ne), rank_at (above j) (apart_from (above j) (omega arith) apart));
        around = around;
      };
      below = below;
    }
      where
        slots : (j : ℕ) → j < s.queued → j ≢ slot_of old place → (after j < s.used) × (after j ≢ place) × (slot_of start (after j) ≡ j)
        slots j h ne =
            let apart = apart_from j h ne in
            (omega (arith, w.heap j, (a.slots j h).0), λ q. apart (sym (w.heap j) ∙ q), slot_at j h apart)

        places : (i : ℕ) → i < s.used → i ≢ place → slot_of start i < no_slot → (slot_of start i < s.queued) × (slot_of start i ≢ slot_of old place) × (after (slot_of start i) ≡ i)
        places i h ne open_in =
            let same = w.slots i ne in
            let was = a.places i h (omega arith) in
            (omega (arith, was.0), λ q. ne (sym was.1 ∙ ap at (sym same ∙ q) ∙ its_slot.1), w.heap (slot_of start i) ∙ ap at same ∙ was.1)

        -- below its slot was nothing that comes before it
        old_below : (j : ℕ) → 0 < j → j < s.queued → above j ≡ slot_of old place → rank old place ≤ rank start (after j)
        old_below j some h e =
            let far = apart_from j h (λ q. omega arith) in
            omega (arith, a.order j some h, ap (λ k. rank old (at k)) e, ap (rank old) its_slot.1, rank_at j far)

        around : (j : ℕ) → 0 < j → j < s.queued → above j ≡ slot_of old place → 0 < slot_of old place → rank start (after (above (slot_of old place))) ≤ rank start (after j)
        around j some h e under =
            let up = above (slot_of old place) in
            let up_in : up < s.queued = omega (arith, its_slot) in
            let far = apart_from up up_in (λ q. omega arith) in
            omega (arith, old_below j some h e, a.order (slot_of old place) under its_slot.0, ap (rank old) its_slot.1, rank_at up far)

        below : (j : ℕ) → 0 < j → j < s.queued → above j ≡ slot_of old place → rank start place ≤ rank start (after j)
        below j some h e = omega (arith, old_below j some h e, lower)

-- the place of slot 0 is closed
module _ (old start : List ℕ) (s : Sizes) (a : IsArranged old s) (some : 0 < s.queued) (w : Written (place_in old s.capacity 0) s.capacity (depth_of old (place_in old s.capacity 0)) (floor_of old (place_in old s.capacity 0)) no_slot old start) where
  abbrev first : ℕ
  first = place_in old s.capacity 0

  abbrev last : ℕ
  last = place_in old s.capacity (s.queued - 1)

  first_known : (first < s.used) × (slot_of old first ≡ 0)
  first_known = a.slots 0 some

  small_floor : floor_of old first < 65536
  small_floor = a.has_room.floors first first_known.0

  has_room_closed : HasRoom start (record { capacity = s.capacity; used = s.used; queued = s.queued - 1 })
  has_room_closed =
      has_room_after old start s a first _ _ no_slot small_floor w s.used (s.queued - 1) a.has_room.in_use (omega (arith, a.has_room.in_heap)) (λ i h ne. h)

  -- other slots have other places
  apart_first : (j : ℕ) → 0 < j → j < s.queued → place_in old s.capacity j ≢ first
  apart_first j more h = λ q. omega (arith, (a.slots j h).1, first_known.1, ap (slot_of old) q)

  -- who is open now was so before, in another slot
  still_open : (i : ℕ) → i < s.used → slot_of start i < no_slot → (i ≢ first) × (slot_of start i ≡ slot_of old i)
  still_open i h is_open =
      let apart : i ≢ first = λ q. omega (arith, ap (slot_of start) q, w.slot) in
      (apart, w.slots i apart)

  open_slot : (i : ℕ) → i < s.used → slot_of start i < no_slot → (slot_of start i < s.queued) × (slot_of start i ≢ 0) × (place_in old s.capacity (slot_of start i) ≡ i)
  open_slot i h is_open =
      let known = still_open i h is_open in
      let was = a.places i h (omega (arith, known.1)) in
      let there : place_in old s.capacity (slot_of start i) ≡ i = ap (place_in old s.capacity) known.1 ∙ was.1 in
      (omega (arith, was.0, known.1), λ q. known.0 (sym there ∙ ap (place_in old s.capacity) q), there)

  -- the last slot goes, and its place is held
  pub closing : 0 < s.queued - 1 → MaySink (rank start) start (record { capacity = s.capacity; used = s.used; queued = s.queued - 1 }) 0 last
  closing more = record {
    has_hole = record {
      has_room = has_room_closed;
      hole_in = more;
      held_in = (a.slots (s.queued - 1) (omega arith)).0;
      slots = slots;
      places = places;
      order = order;
      around = λ j under h e none. absurd (omega arith);
    };
    over = λ none. absurd (omega arith);
  }
    where
      slots : (j : ℕ) → j < s.queued - 1 → j ≢ 0 → (place_in start s.capacity j < s.used) × (place_in start s.capacity j ≢ last) × (slot_of start (place_in start s.capacity j) ≡ j)
      slots j h ne =
          let known = a.slots j (omega arith) in
          let end = a.slots (s.queued - 1) (omega arith) in (
            omega (arith, w.heap j, known.0),
            λ q. omega (arith, ap (slot_of old) (sym (w.heap j) ∙ q), known.1, end.1),
            slot_at old start s a first _ _ no_slot small_floor w j (omega arith) (apart_first j (omega arith) (omega arith)),
          )

      places : (i : ℕ) → i < s.used → i ≢ last → slot_of start i < no_slot → (slot_of start i < s.queued - 1) × (slot_of start i ≢ 0) × (place_in start s.capacity (slot_of start i) ≡ i)
      places i h ne is_open =
          let known = open_slot i h is_open in
          let off : slot_of start i ≢ s.queued - 1 = λ q. ne (sym known.2 ∙ ap (place_in old s.capacity) q) in
          (omega (arith, known.0), known.1, w.heap (slot_of start i) ∙ known.2)

      order : (j : ℕ) → 0 < j → j < s.queued - 1 → j ≢ 0 → above j ≢ 0 → rank start (place_in start s.capacity (above j)) ≤ rank start (place_in start s.capacity j)
      order j under h ne apart =
          let same : (k : ℕ) → 0 < k → k < s.queued → rank start (place_in start s.capacity k) ≡ rank old (place_in old s.capacity k) = λ k b l. rank_at old start s a first _ _ no_slot small_floor w k (apart_first k b l) in
          omega (arith, a.order j under (omega arith), same j under (omega arith), same (above j) (omega arith) (omega arith))

  -- without another slot the heap is empty
  pub emptied : s.queued - 1 ≤ 0 → IsArranged start (record { capacity = s.capacity; used = s.used; queued = s.queued - 1 })
  emptied none = record {
    has_room = has_room_closed;
    slots = λ j h. absurd (omega arith);
    places = λ i h is_open. absurd (let known = open_slot i h is_open in omega (arith, known.0, known.1));
    order = λ j under h. absurd (omega arith);
  }

  pub entry_closed : entry_at start first ≡ closed_entry (entry_at old first)
  entry_closed =
      let shut : nat_lt (slot_of start first) no_slot ≡ false = ap (λ k. nat_lt k no_slot) w.slot in
      cc (w.depth, w.floor, shut)
