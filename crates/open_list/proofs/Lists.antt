-- The list of entries after a change. Assumes nothing.
use Rattle.std.proofs.Common.{◌≡◌, ◌≢◌, ℕ, ◌+◌, ◌<◌, ◌≤◌, List, [], ◌∷◌, ◌++◌, length, set, get_or, slice_get, Some, None, ap, sym, ◌∙◌, arith, ⊎_elim}
use Rattle.std.proofs.lemmas.Bool.{cases_eq}
use Rattle.std.proofs.lemmas.List.{same_lists, length-set, get_or-set_same, get_or-set_other}
use Rattle.std.proofs.lemmas.List.FromFn.{length-map-range_with_len, get_or-map-range_with_len, map-range_with_len_more}
use Rattle.std.proofs.lemmas.Option.{slice_get-get_or, slice_get_within, slice_get_past, get_or_from_slice_get}
use Rattle.open_list.specs.Entries.{Entry}
use Rattle.open_list.specs.inside.Layout.{entry_at, entries}

pub length_entries : (numbers : List ℕ) (used : ℕ) → length (entries numbers used) ≡ used
length_entries numbers used = length-map-range_with_len (entry_at numbers) 0 used

get_or-entries : (numbers : List ℕ) (used i : ℕ) (d : Entry) → i < used → get_or (entries numbers used) i d ≡ entry_at numbers i
get_or-entries numbers used i d h = get_or-map-range_with_len (entry_at numbers) 0 used i i d h (omega arith)

-- the entry of a place in use
pub entry_there : (numbers : List ℕ) (used i : ℕ) → i < used → slice_get (entries numbers used) i ≡ Some (entry_at numbers i)
entry_there numbers used i h =
    slice_get-get_or (entries numbers used) i (entry_at numbers i) (omega (arith, length_entries numbers used)) ∙ ap Some (get_or-entries numbers used i _ h)

-- an entry is that of a place in use
pub entry_of : (numbers : List ℕ) (used i : ℕ) (e : Entry) → slice_get (entries numbers used) i ≡ Some e → (i < used) × (e ≡ entry_at numbers i)
entry_of numbers used i e is =
    let inside : i < used = omega (arith, slice_get_within (entries numbers used) i e is, length_entries numbers used) in
    (inside, sym (get_or_from_slice_get (entries numbers used) i e e is) ∙ get_or-entries numbers used i e inside)

module _ (old new : List ℕ) (used : ℕ) where
  pub entries_same : ((i : ℕ) → i < used → entry_at new i ≡ entry_at old i) → entries new used ≡ entries old used
  entries_same same = same_lists _ _ (length_entries new used ∙ sym (length_entries old used)) each
    where
      each : (i : ℕ) (d : Entry) → i < length (entries new used) → get_or (entries new used) i d ≡ get_or (entries old used) i d
      each i d h =
          let inside : i < used = omega (arith, length_entries new used) in
          get_or-entries new used i d inside ∙ same i inside ∙ sym (get_or-entries old used i d inside)

  -- one entry changed
  pub entries_set : (place : ℕ) (e : Entry) → place < used → ((i : ℕ) → i < used → i ≢ place → entry_at new i ≡ entry_at old i) → entry_at new place ≡ e → entries new used ≡ set (entries old used) place e
  entries_set place e inside same here = same_lists _ _ (length_entries new used ∙ sym (length_entries old used) ∙ sym (length-set (entries old used) place e)) each
    where
      each : (i : ℕ) (d : Entry) → i < length (entries new used) → get_or (entries new used) i d ≡ get_or (set (entries old used) place e) i d
      each i d h =
          let i_in : i < used = omega (arith, length_entries new used) in
          let room : place < length (entries old used) = omega (arith, length_entries old used) in
          get_or-entries new used i d i_in
          ∙ ⊎_elim
          (λ (q : i ≡ place).
          ap (entry_at new) q ∙ here ∙ sym (get_or-set_same (entries old used) place e d room) ∙ ap (λ k. get_or (set (entries old used) place e) k d) (sym q))
          (λ (ne : i ≢ place).
          same i i_in ne ∙ sym (get_or-entries old used i d i_in) ∙ sym (get_or-set_other (entries old used) place i e d ne))
          (cases_eq i place)

  -- one entry more
  pub entries_more : (e : Entry) → ((i : ℕ) → i < used → entry_at new i ≡ entry_at old i) → entry_at new used ≡ e → entries new (used + 1) ≡ entries old used ++ (e ∷ [])
  entries_more e same here =
      map-range_with_len_more (entry_at new) 0 used used (omega arith) ∙ ap (λ es. es ++ (entry_at new used ∷ [])) (entries_same same) ∙ ap (λ x. entries old used ++ (x ∷ [])) here

-- a place that is not in use has no entry
pub entry_past : (numbers : List ℕ) (used i : ℕ) → used ≤ i → slice_get (entries numbers used) i ≡ None
entry_past numbers used i h = slice_get_past (entries numbers used) i (omega (arith, length_entries numbers used))
