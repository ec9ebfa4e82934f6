-- The keys of the first places, one by one. Assumes nothing.
use Rattle.std.proofs.Common.{◌≡◌, ℕ, zero, suc, ◌<◌, List, [], ◌∷◌, ◌++◌, length, get_or, Some, sym, refl, ap, ◌∙◌, ◌⊎◌, inl, inr, arith}
use Rattle.std.specs.Prelude.{slice_get}
use Rattle.std.proofs.lemmas.Bool.{cases_eq}
use Rattle.std.proofs.lemmas.List.{length_push, get_or_push, get_or_append_left}
use Rattle.std.proofs.lemmas.Option.{slice_get-get_or, slice_get_within}
use Rattle.hash_index.specs.inside.Chains.{key_of, keys_of}

module _ (numbers : List ℕ) where
  pub length_keys : (n : ℕ) → length (keys_of numbers n) ≡ n
  length_keys zero = refl
  length_keys (suc n) = omega (arith, length_push (keys_of numbers n) (key_of numbers n), length_keys n)

  get_or_keys : (n j : ℕ) → j < n → get_or (keys_of numbers n) j 0 ≡ key_of numbers j
  get_or_keys zero j below = absurd (omega arith)
  get_or_keys (suc n) j below = by (cases_eq j n) (get_or_keys n j)
    where
      by : (j ≡ n) ⊎ (j ≡ n → ⊥) → (j < n → get_or (keys_of numbers n) j 0 ≡ key_of numbers j) → get_or (keys_of numbers n ++ (key_of numbers n ∷ [])) j 0 ≡ key_of numbers j
      by (inl same) earlier = get_or_push (keys_of numbers n) (key_of numbers n) 0 j (omega (arith, same, length_keys n)) ∙ ap (key_of numbers) (sym same)
      by (inr other) earlier = let before : j < n = omega (arith, other) in
          get_or_append_left (keys_of numbers n) (key_of numbers n ∷ []) 0 j (omega (arith, length_keys n)) ∙ earlier before

  pub key_there : (n j : ℕ) → j < n → slice_get (keys_of numbers n) j ≡ Some (key_of numbers j)
  key_there n j below = slice_get-get_or (keys_of numbers n) j 0 (omega (arith, length_keys n)) ∙ ap Some (get_or_keys n j below)

  pub key_is : (n j key : ℕ) → slice_get (keys_of numbers n) j ≡ Some key → key_of numbers j ≡ key
  key_is n j key there =
      let below : j < n = omega (arith, length_keys n, slice_get_within (keys_of numbers n) j key there) in
      let same = sym (key_there n j below) ∙ there in cc

-- lists with the same keys of places show the same keys
pub keys_alike : (xs ys : List ℕ) (n : ℕ) → ((j : ℕ) → j < n → key_of xs j ≡ key_of ys j) → keys_of xs n ≡ keys_of ys n
keys_alike xs ys zero alike = refl
keys_alike xs ys (suc n) alike =
    let front = keys_alike xs ys n (λ j below. alike j (omega arith)) in
    let last = alike n (omega arith) in cc
