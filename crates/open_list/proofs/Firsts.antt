-- The place of slot 0 comes first. Assumes nothing.
use Rattle.std.proofs.Common.{◌≡◌, ℕ, zero, suc, ◌<◌, ◌≤◌, true, List, slice_get, Some, ap, sym, subst, ◌∙◌, arith, ⊎_elim}
use Rattle.std.proofs.lemmas.Bool.{cases_lt, lt-ltb, ltb-true, false_from_ne_true}
use Rattle.open_list.specs.declared.heap.Sizes.{Sizes}
use Rattle.open_list.specs.Entries.{Entry, Before, Foremost, NoneOpen}
use Rattle.open_list.specs.inside.Layout.{floor_of, slot_of, place_in, no_slot, above, entry_at, entries, rank}
use Rattle.open_list.specs.inside.Sifting.{IsOrdered, IsArranged}
use Rattle.open_list.proofs.Lists.{entry_there, entry_of}

-- a place of a lower rank comes before
ranked_before : (numbers : List ℕ) (i j : ℕ) → floor_of numbers i < 65536 → floor_of numbers j < 65536 → i < 1048576 → j < 1048576 → rank numbers i ≤ rank numbers j → Before (entry_at numbers i) i (entry_at numbers j) j
unfolding rank
ranked_before numbers i j small_i small_j few_i few_j le = record {
  lesser = omega arith;
  deeper = λ e. omega arith;
  earlier = λ e d. omega arith;
}

-- no slot of a heap comes before slot 0
least : (key : ℕ → ℕ) (numbers : List ℕ) (s : Sizes) → IsOrdered key numbers s → (n j : ℕ) → j ≤ n → j < s.queued → key (place_in numbers s.capacity 0) ≤ key (place_in numbers s.capacity j)
least key numbers s o zero j h inside =
    let e : j ≡ 0 = omega arith in
    omega (arith, ap (λ k. key (place_in numbers s.capacity k)) e)
least key numbers s o (suc n) j h inside =
    ⊎_elim
    (λ (some : 0 < j).
    omega (arith, least key numbers s o n (above j) (omega arith) (omega arith), o.order j some inside))
    (λ (none : j ≤ 0).
    let e : j ≡ 0 = omega arith in
    omega (arith, ap (λ k. key (place_in numbers s.capacity k)) e))
    (cases_lt 0 j)

module _ (numbers : List ℕ) (s : Sizes) (a : IsArranged numbers s) where
  -- an open entry is that of a place in the heap
  in_heap : (j : ℕ) (e : Entry) → slice_get (entries numbers s.used) j ≡ Some e → e.is_open ≡ true → (j < s.used) × (slot_of numbers j < s.queued) × (place_in numbers s.capacity (slot_of numbers j) ≡ j)
  in_heap j e there is_open =
      let known = entry_of numbers s.used j e there in
      let open_in : slot_of numbers j < no_slot = ltb-true _ _ (sym (ap (λ (x : Entry). x.is_open) known.1) ∙ is_open) in
      let found = a.places j known.0 open_in in
      (known.0, found.0, found.1)

  pub none_open : s.queued ≡ 0 → NoneOpen (entries numbers s.used)
  none_open empty j e there =
      false_from_ne_true _ (λ is_open. omega (arith, (in_heap j e there is_open).1))

  pub foremost : (place : ℕ) → 0 < s.queued → place ≡ place_in numbers s.capacity 0 → Foremost (entries numbers s.used) place
  foremost place some is = subst (Foremost (entries numbers s.used)) (sym is) (record {
    here = entry_at numbers head;
    there = entry_there numbers s.used head top.0;
    is_open = lt-ltb _ _ (omega (arith, top.1));
    first = λ j other there is_open.
        let found = in_heap j other there is_open in
        let lower : rank numbers head ≤ rank numbers j = omega (arith, least (rank numbers) numbers s a (slot_of numbers j) (slot_of numbers j) (omega arith) found.1, ap (rank numbers) found.2) in
        subst (λ e. Before (entry_at numbers head) head e j) (sym (entry_of numbers s.used j other there).1)
        (ranked_before numbers head j (a.has_room.floors head top.0) (a.has_room.floors j found.0) (omega (arith, top.0, a.has_room.in_use, a.has_room.few)) (omega (arith, found.0, a.has_room.in_use, a.has_room.few)) lower);
  })
    where
      head : ℕ
      head = place_in numbers s.capacity 0

      top : (head < s.used) × (slot_of numbers head ≡ 0)
      top = a.slots 0 some
