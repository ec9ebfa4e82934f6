-- What stands at the places of a list when one of them is written, or one is added. Assumes nothing.
use Rattle.std.proofs.Common.{◌≡◌, ℕ, zero, suc, ◌≤◌, ◌⊎◌, inl, inr, List, [], ◌∷◌, ◌++◌, map, length, slice_get, slice_set, Some, refl, ap, length-set, length-append, arith}
use Rattle.std.proofs.lemmas.Option.{same_Some, none-some}

module _ {X : Type 0} where
  -- one list is another with y at one place: written over what stood there, or added behind the rest
  pub record Put (old new : List X) (i : ℕ) (y : X) : Type 0 where
    pub here : slice_get new i ≡ Some y
    pub back : (j : ℕ) (z : X) → slice_get new j ≡ Some z → ((j ≡ i) × (z ≡ y)) ⊎ ((j ≡ i → ⊥) × (slice_get old j ≡ Some z))
    pub kept : (j : ℕ) (x : X) → slice_get old j ≡ Some x → (j ≡ i → ⊥) → slice_get new j ≡ Some x
    pub longer : length old ≤ length new

  set_here : (xs : List X) (i : ℕ) (x y : X) → slice_get xs i ≡ Some x → slice_get (slice_set xs i y) i ≡ Some y
  set_here [] i x y e = absurd (none-some x e)
  set_here (z ∷ xs) zero x y e = refl
  set_here (z ∷ xs) (suc i) x y e = set_here xs i x y e

  set_kept : (xs : List X) (i : ℕ) (y : X) (j : ℕ) (x : X) → slice_get xs j ≡ Some x → (j ≡ i → ⊥) → slice_get (slice_set xs i y) j ≡ Some x
  set_kept [] i y j x e other = e
  set_kept (z ∷ xs) zero y zero x e other = absurd (other refl)
  set_kept (z ∷ xs) zero y (suc j) x e other = e
  set_kept (z ∷ xs) (suc i) y zero x e other = e
  set_kept (z ∷ xs) (suc i) y (suc j) x e other = set_kept xs i y j x e (λ same. other (ap suc same))

  set_back : (xs : List X) (i : ℕ) (y : X) (j : ℕ) (z : X) → slice_get (slice_set xs i y) j ≡ Some z → ((j ≡ i) × (z ≡ y)) ⊎ ((j ≡ i → ⊥) × (slice_get xs j ≡ Some z))
  set_back [] i y j z e = absurd (none-some z e)
  set_back (w ∷ xs) zero y zero z e = inl (refl, same_Some z y (cc))
  set_back (w ∷ xs) zero y (suc j) z e = inr (λ same. absurd (omega arith), e)
  set_back (w ∷ xs) (suc i) y zero z e = inr (λ same. absurd (omega arith), e)
  set_back (w ∷ xs) (suc i) y (suc j) z e = one_on (set_back xs i y j z e)
    where
      one_on : ((j ≡ i) × (z ≡ y)) ⊎ ((j ≡ i → ⊥) × (slice_get xs j ≡ Some z)) → ((suc j ≡ suc i) × (z ≡ y)) ⊎ ((suc j ≡ suc i → ⊥) × (slice_get xs j ≡ Some z))
      one_on (inl same) = inl (ap suc same.0, same.1)
      one_on (inr other) = inr (λ same. other.0 (omega arith), other.1)

  -- a place is written
  pub put_set : (xs : List X) (i : ℕ) (x y : X) → slice_get xs i ≡ Some x → Put xs (slice_set xs i y) i y
  put_set xs i x y e = record {
    here = set_here xs i x y e;
    back = set_back xs i y;
    kept = set_kept xs i y;
    longer = omega (arith, length-set xs i y);
  }

  push_here : (xs : List X) (y : X) → slice_get (xs ++ (y ∷ [])) (length xs) ≡ Some y
  push_here [] y = refl
  push_here (x ∷ xs) y = push_here xs y

  pub push_kept : (xs : List X) (y : X) (j : ℕ) (x : X) → slice_get xs j ≡ Some x → slice_get (xs ++ (y ∷ [])) j ≡ Some x
  push_kept [] y j x e = absurd (none-some x e)
  push_kept (z ∷ xs) y zero x e = e
  push_kept (z ∷ xs) y (suc j) x e = push_kept xs y j x e

  push_back : (xs : List X) (y : X) (j : ℕ) (z : X) → slice_get (xs ++ (y ∷ [])) j ≡ Some z → ((j ≡ length xs) × (z ≡ y)) ⊎ ((j ≡ length xs → ⊥) × (slice_get xs j ≡ Some z))
  push_back [] y zero z e = inl (refl, same_Some z y (cc))
  push_back [] y (suc j) z e = absurd (none-some z e)
  push_back (x ∷ xs) y zero z e = inr (λ same. absurd (omega arith), e)
  push_back (x ∷ xs) y (suc j) z e = one_on (push_back xs y j z e)
    where
      one_on : ((j ≡ length xs) × (z ≡ y)) ⊎ ((j ≡ length xs → ⊥) × (slice_get xs j ≡ Some z)) → ((suc j ≡ suc (length xs)) × (z ≡ y)) ⊎ ((suc j ≡ suc (length xs) → ⊥) × (slice_get xs j ≡ Some z))
      one_on (inl same) = inl (ap suc same.0, same.1)
      one_on (inr other) = inr (λ same. other.0 (omega arith), other.1)

  -- a place is added
  pub put_push : (xs : List X) (y : X) → Put xs (xs ++ (y ∷ [])) (length xs) y
  put_push xs y = record {
    here = push_here xs y;
    back = push_back xs y;
    kept = λ j x e other. push_kept xs y j x e;
    longer = omega (arith, length-append xs (y ∷ []));
  }

-- what stands in a mapped list
pub get_map : {X Y : Type 0} (f : X → Y) (xs : List X) (i : ℕ) (y : Y) → slice_get (map f xs) i ≡ Some y → (x : X) × (slice_get xs i ≡ Some x) × (f x ≡ y)
get_map f [] i y e = absurd (none-some y e)
get_map f (x ∷ xs) zero y e = (x, refl, same_Some (f x) y e)
get_map f (x ∷ xs) (suc i) y e = get_map f xs i y e
