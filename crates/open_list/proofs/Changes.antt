-- What the changes of an open list leave. Assumes nothing.
use Rattle.std.proofs.Common.{◌≡◌, ◌≢◌, ℕ, ◌+◌, ◌-◌, ◌*◌, ◌<◌, ◌≤◌, true, nat_lt, List, [], ◌∷◌, ◌++◌, length, set, refl, ap, sym, subst, ◌∙◌, arith, ⊎_elim}
use Rattle.std.proofs.lemmas.Bool.{cases_eq, lt-ltb}
use Rattle.open_list.specs.declared.heap.Sizes.{Sizes}
use Rattle.open_list.specs.Entries.{entry, closed_entry}
use Rattle.open_list.specs.inside.Layout.{depth_of, floor_of, slot_of, place_in, no_slot, entry_at, entries, rank}
use Rattle.open_list.specs.inside.Sifting.{IsArranged, MayRise, MaySink, SiftsIn}
use Rattle.open_list.specs.inside.Changing.{Leaves}
use Rattle.open_list.proofs.Lists.{entries_set, entries_more}
use Rattle.open_list.proofs.Writes.{Written, depth_written, floor_written, slot_written, both_written}
use Rattle.open_list.proofs.Room.{one_more}
use Rattle.open_list.proofs.Entering.{entry_else, appended, raised, closing, emptied, entry_closed}

-- a rank falls with the moves made
rank_lower : (old start : List ℕ) (place : ℕ) → depth_of start place < depth_of old place → floor_of start place ≡ floor_of old place → rank start place ≤ rank old place
unfolding rank
rank_lower old start place d f = omega arith

-- the entry of a place that was written and sifted
entry_sifted : (old start new : List ℕ) (s r : Sizes) (place depth floor slot : ℕ) → Written place s.capacity depth floor slot old start → SiftsIn place start new r → entry_at new place ≡ entry depth floor true
entry_sifted old start new s r place depth floor slot w sift = cc (sift.here, w.depth, w.floor)

-- a place that was open has its entry still
entry_still : (start new : List ℕ) (r : Sizes) (held i : ℕ) → SiftsIn held start new r → slot_of start held < no_slot → i < r.used → entry_at new i ≡ entry_at start i
entry_still start new r held i sift was_open h =
    ⊎_elim
    (λ (e : i ≡ held).
    let is_open : nat_lt (slot_of start held) no_slot ≡ true = lt-ltb _ _ was_open in
    let here : entry_at new held ≡ entry_at start held = cc (sift.here, is_open) in
    ap (entry_at new) e ∙ here ∙ ap (entry_at start) (sym e))
    (λ (ne : i ≢ held). sift.same.others i h ne)
    (cases_eq i held)

module _ (old : List ℕ) (s : Sizes) (a : IsArranged old s) where
  -- a place more
  module _ (depth floor : ℕ) (small : floor < 65536) (room : s.used < s.capacity) (mid start : List ℕ) (one : mid ≡ set old (3 * s.used) depth) (two : start ≡ set mid (3 * s.used + 1) floor) where
    abbrev more : Sizes
    more = record { capacity = s.capacity; used = s.used + 1; queued = s.queued + 1 }

    added_written : Written s.used s.capacity depth floor (slot_of old s.used) old start
    added_written =
        let first = depth_written s.capacity s.used old a.has_room.room room depth mid one in
        let then = floor_written s.capacity s.used mid (omega (arith, a.has_room.room, first.long)) room floor start two in
        both_written s.used s.capacity depth floor (slot_of old s.used) (floor_of old s.used) old mid start first then

    pub added_rises : MayRise (rank start) start more s.queued s.used
    added_rises =
        appended old start s a s.used depth floor (slot_of old s.used) small added_written (s.used + 1) (omega arith) (omega arith) (omega arith) (λ i h ne. omega arith) (omega (arith, a.has_room.in_heap)) (λ j h q. omega (arith, (a.slots j h).0))

    pub added_leaves : (new : List ℕ) → SiftsIn s.used start new more → Leaves old new s more (entries old s.used ++ (entry depth floor true ∷ []))
    added_leaves new sift = record {
      arranged = sift.arranged;
      capacity = refl;
      long = sift.same.long ∙ added_written.long;
      entries = entries_more old new s.used (entry depth floor true) same (entry_sifted old start new s more s.used depth floor (slot_of old s.used) added_written sift);
    }
      where
        same : (i : ℕ) → i < s.used → entry_at new i ≡ entry_at old i
        same i h =
            let apart : i ≢ s.used = λ q. omega arith in
            sift.same.others i (omega arith) apart ∙ entry_else old start s a s.used depth floor (slot_of old s.used) small added_written i apart

  -- a place with fewer moves
  module _ (place depth : ℕ) (inside : place < s.used) (fewer : depth < depth_of old place) (start : List ℕ) (is : start ≡ set old (3 * place) depth) where
    lowered_written : Written place s.capacity depth (floor_of old place) (slot_of old place) old start
    lowered_written = depth_written s.capacity place old a.has_room.room (omega (arith, a.has_room.in_use)) depth start is

    small_floor : floor_of old place < 65536
    small_floor = a.has_room.floors place inside

    pub lowered_rises : slot_of old place < no_slot → MayRise (rank start) start s (slot_of old place) place
    lowered_rises is_open =
        raised old start s a place depth (floor_of old place) (slot_of old place) small_floor lowered_written inside is_open (rank_lower old start place (omega (arith, lowered_written.depth)) lowered_written.floor)

    -- a closed place is in no slot, so there is one more
    pub outside : no_slot ≤ slot_of old place → (j : ℕ) → j < s.queued → place_in old s.capacity j ≢ place
    outside shut j h = λ q. omega (arith, ap (slot_of old) q, (a.slots j h).1, a.has_room.few, a.has_room.in_use, a.has_room.in_heap)

    pub slot_free : no_slot ≤ slot_of old place → s.queued + 1 ≤ s.used
    slot_free shut =
        one_more (slot_of old) (place_in old s.capacity) s.queued s.used place inside (λ j h. ((a.slots j h).0, outside shut j h, (a.slots j h).1))

    pub lowered_opens : no_slot ≤ slot_of old place → MayRise (rank start) start (record { capacity = s.capacity; used = s.used; queued = s.queued + 1 }) s.queued place
    lowered_opens shut =
        appended old start s a place depth (floor_of old place) (slot_of old place) small_floor lowered_written s.used inside a.has_room.in_use (omega arith) (λ i h ne. h) (slot_free shut) (outside shut)

    pub lowered_leaves : (queued : ℕ) (new : List ℕ) → SiftsIn place start new (record { capacity = s.capacity; used = s.used; queued = queued }) → Leaves old new s (record { capacity = s.capacity; used = s.used; queued = queued }) (set (entries old s.used) place (entry depth (floor_of old place) true))
    lowered_leaves queued new sift =
        let r : Sizes = record { capacity = s.capacity; used = s.used; queued = queued } in
        record {
          arranged = sift.arranged;
          capacity = refl;
          long = sift.same.long ∙ lowered_written.long;
          entries = entries_set old new s.used place (entry depth (floor_of old place) true) inside same (entry_sifted old start new s r place depth (floor_of old place) (slot_of old place) lowered_written sift);
        }
      where
        same : (i : ℕ) → i < s.used → i ≢ place → entry_at new i ≡ entry_at old i
        same i h ne =
            sift.same.others i h ne ∙ entry_else old start s a place depth (floor_of old place) (slot_of old place) small_floor lowered_written i ne

  -- the first place closed
  module _ (some : 0 < s.queued) (first : ℕ) (is_first : first ≡ place_in old s.capacity 0) (start : List ℕ) (is : start ≡ set old (3 * first + 2) no_slot) where
    abbrev head : ℕ
    head = place_in old s.capacity 0

    abbrev fewer_sizes : Sizes
    fewer_sizes = record { capacity = s.capacity; used = s.used; queued = s.queued - 1 }

    head_in : head < s.used
    head_in = (a.slots 0 some).0

    closed_written : Written head s.capacity (depth_of old head) (floor_of old head) no_slot old start
    closed_written =
        slot_written s.capacity head old a.has_room.room (omega (arith, head_in, a.has_room.in_use)) no_slot start (is ∙ ap (λ k. set old (3 * k + 2) no_slot) is_first)

    others : (i : ℕ) → i ≢ head → entry_at start i ≡ entry_at old i
    others i ne = entry_else old start s a head _ _ no_slot (a.has_room.floors head head_in) closed_written i ne

    leaves_closed : (new : List ℕ) → IsArranged new fewer_sizes → length new ≡ length start → ((i : ℕ) → i < s.used → entry_at new i ≡ entry_at start i) → Leaves old new s fewer_sizes (set (entries old s.used) head (closed_entry (entry_at old head)))
    leaves_closed new arranged long same = record {
      arranged = arranged;
      capacity = refl;
      long = long ∙ closed_written.long;
      entries = entries_set old new s.used head (closed_entry (entry_at old head)) head_in (λ i h ne. same i h ∙ others i ne) (same head head_in ∙ entry_closed old start s a some closed_written);
    }

    pub closed_empty : s.queued - 1 ≤ 0 → Leaves old start s fewer_sizes (set (entries old s.used) head (closed_entry (entry_at old head)))
    closed_empty none = leaves_closed start (emptied old start s a some closed_written none) refl (λ i h. refl)

    module _ (last : ℕ) (is_last : last ≡ place_in old s.capacity (s.queued - 1)) (more : 0 < s.queued - 1) where
      pub closed_sinks : MaySink (rank start) start fewer_sizes 0 last
      closed_sinks = subst (MaySink (rank start) start fewer_sizes 0) (sym is_last) (closing old start s a some closed_written more)

      last_open : slot_of start last < no_slot
      last_open =
          let end = a.slots (s.queued - 1) (omega arith) in
          let apart : last ≢ head = λ q. omega (arith, end.1, (a.slots 0 some).1, ap (slot_of old) (sym is_last ∙ q)) in
          omega (arith, closed_written.slots last apart, ap (slot_of old) is_last, end.1, a.has_room.few, a.has_room.in_use, a.has_room.in_heap)

      pub closed_leaves : (new : List ℕ) → SiftsIn last start new fewer_sizes → Leaves old new s fewer_sizes (set (entries old s.used) head (closed_entry (entry_at old head)))
      closed_leaves new sift =
          leaves_closed new sift.arranged sift.same.long (λ i h. entry_still start new fewer_sizes last i sift last_open h)
