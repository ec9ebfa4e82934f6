-- What a place that is added leaves of the chains. Assumes nothing.
use Rattle.std.proofs.Common.{◌≡◌, ◌≢◌, ℕ, ◌+◌, ◌*◌, ◌<◌, ◌≤◌, Bool, cond, List, [], ◌∷◌, ◌++◌, length, get_or, set, Some, None, Option, sym, refl, ap, ◌∙◌, ◌⊎◌, inl, inr, add-one, arith}
use Rattle.std.proofs.lemmas.Bool.{cases_eq, ne_eqb}
use Rattle.std.proofs.lemmas.List.{length-set, get_or-set_same, get_or-set_other}
use Rattle.hash_index.specs.inside.Chains.{most_places, no_place, place_of, key_of, link_of, head_of, keys_of, bucket_of, with_place, IsLargest, IsInBucket, HeadsAreLast, LinksAreEarlier}
use Rattle.hash_index.proofs.Buckets.{bucket_below}
use Rattle.hash_index.proofs.Largest.{largest_alike, largest_more}
use Rattle.hash_index.proofs.Keys.{keys_alike}

-- a place that an index may have is not the mark
place_of_itself : (place : ℕ) → place < most_places → place_of place ≡ Some place
place_of_itself place few = ap (λ (b : Bool). cond b None (Some place)) (ne_eqb place no_place (λ same. omega arith))

-- there is room for the place, and the key is a number of 32 bits
pub record Adds (numbers : List ℕ) (capacity place key : ℕ) : Type 0 where
  pub few : capacity ≤ most_places
  pub room : place < capacity
  pub long : 3 * capacity ≤ length numbers
  pub fits : key < 4294967296

module _ (numbers : List ℕ) (capacity place key : ℕ) (adds : Adds numbers capacity place key) where
  -- the bucket of the key
  abbrev bucket : ℕ
  bucket = bucket_of capacity key

  abbrev new : List ℕ
  new = with_place numbers capacity place key

  head_in : bucket < capacity
  head_in = bucket_below capacity key (omega arith) adds.fits

  pub added_length : length new ≡ length numbers
  added_length = simp length-set

  key_new : key_of new place ≡ key
  key_new =
      let not_link : 2 * place ≢ 2 * place + 1 = omega arith in
      let not_head : 2 * place ≢ 2 * capacity + bucket = omega arith in
      let inside : 2 * place < length numbers = omega arith in
      rw (get_or-set_other, get_or-set_other) (get_or-set_same numbers (2 * place) key 0 inside)

  -- the other numbers stay
  elsewhere : (k : ℕ) → k ≢ 2 * place → k ≢ 2 * place + 1 → k ≢ 2 * capacity + bucket → get_or new k 0 ≡ get_or numbers k 0
  elsewhere k not_key not_link not_head = rw (get_or-set_other, get_or-set_other, get_or-set_other) refl

  key_old : (j : ℕ) → j < place → key_of new j ≡ key_of numbers j
  key_old j below = elsewhere (2 * j) (omega arith) (omega arith) (omega arith)

  link_new : link_of new place ≡ head_of numbers capacity bucket
  link_new =
      let not_head : 2 * place + 1 ≢ 2 * capacity + bucket = omega arith in
      let inside : 2 * place + 1 < length (set numbers (2 * place) key) = simp length-set (omega arith) in
      rw (get_or-set_other) (ap place_of (get_or-set_same (set numbers (2 * place) key) (2 * place + 1) _ 0 inside))

  link_old : (j : ℕ) → j < place → link_of new j ≡ link_of numbers j
  link_old j below = ap place_of (elsewhere (2 * j + 1) (omega arith) (omega arith) (omega arith))

  head_new : head_of new capacity bucket ≡ Some place
  head_new =
      let inside : 2 * capacity + bucket < length (set (set numbers (2 * place) key) (2 * place + 1) (get_or numbers (2 * capacity + bucket) 0)) = simp length-set (omega (arith, head_in)) in
      ap place_of (get_or-set_same _ (2 * capacity + bucket) place 0 inside) ∙ place_of_itself place (omega arith)

  head_old : (b : ℕ) → b ≢ bucket → head_of new capacity b ≡ head_of numbers capacity b
  head_old b other = ap place_of (elsewhere (2 * capacity + b) (omega arith) (omega arith) (λ same. other (omega (arith, same))))

  -- the keys have one more
  pub keys_added : keys_of new (place + 1) ≡ keys_of numbers place ++ (key ∷ [])
  keys_added =
      let front = keys_alike new numbers place key_old in
      rw (add-one place, key_new) (ap (λ (keys : List ℕ). keys ++ (key ∷ [])) front)

  bucket_new : IsInBucket new capacity bucket place
  bucket_new = ap (bucket_of capacity) key_new

  bucket_old : (j : ℕ) → j < place → bucket_of capacity (key_of new j) ≡ bucket_of capacity (key_of numbers j)
  bucket_old j below = ap (bucket_of capacity) (key_old j below)

  -- the largest place of a bucket among the places before stays
  still_largest : (b n : ℕ) (o : Option ℕ) → n ≤ place → IsLargest (IsInBucket numbers capacity b) n o → IsLargest (IsInBucket new capacity b) n o
  still_largest b n o within =
      largest_alike (IsInBucket numbers capacity b) (IsInBucket new capacity b) n o (λ j below q. bucket_old j (omega arith) ∙ q) (λ j below q. sym (bucket_old j (omega arith)) ∙ q)

  pub heads_added : HeadsAreLast numbers capacity place → HeadsAreLast new capacity (place + 1)
  heads_added heads b below = by (cases_eq b bucket)
    where
      by : (b ≡ bucket) ⊎ (b ≡ bucket → ⊥) → IsLargest (IsInBucket new capacity b) (place + 1) (head_of new capacity b)
      by (inl same) = rw (same, head_new) (omega arith, bucket_new, λ j after before q. absurd (omega arith))
      by (inr other) = rw (head_old b other)
          (largest_more (IsInBucket new capacity b) place _ (λ q. other (sym q ∙ bucket_new)) (still_largest b place _ (omega arith) (heads b below)))

  pub links_added : HeadsAreLast numbers capacity place → LinksAreEarlier numbers capacity place → LinksAreEarlier new capacity (place + 1)
  links_added heads links i below = by (cases_eq i place)
    where
      by : (i ≡ place) ⊎ (i ≡ place → ⊥) → IsLargest (IsInBucket new capacity (bucket_of capacity (key_of new i))) i (link_of new i)
      by (inl same) = rw (same, link_new, key_new) (still_largest bucket place _ (omega arith) (heads bucket head_in))
      by (inr other) =
          let before : i < place = omega (arith, other) in
          rw (link_old i before, key_old i before) (still_largest (bucket_of capacity (key_of numbers i)) i _ (omega arith) (links i before))
