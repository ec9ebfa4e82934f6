-- A walk along a chain meets the last place with a key. Assumes nothing.
use Rattle.std.proofs.Common.{◌≡◌, ◌≢◌, ℕ, ◌+◌, ◌<◌, ◌≤◌, List, Some, None, Option, subst, ap, ◌∙◌, ◌⊎◌, inl, inr, arith}
use Rattle.std.specs.Prelude.{MatchOption, ⊤}
use Rattle.std.proofs.lemmas.Bool.{cases_order}
use Rattle.hash_index.specs.Index.{IsLast}
use Rattle.hash_index.specs.inside.Chains.{key_of, link_of, keys_of, bucket_of, IsLargest, IsInBucket, LinksAreEarlier}
use Rattle.hash_index.proofs.Keys.{key_there, key_is}

module _ (numbers : List ℕ) (capacity key n : ℕ) where
  -- a walk among the first n places is at the largest place below a bound, and what has the key is below the bound too
  pub record Ahead (next : Option ℕ) : Type 0 where
    pub bound : ℕ
    pub within : bound ≤ n
    pub largest : IsLargest (IsInBucket numbers capacity (bucket_of capacity key)) bound next
    pub ahead : (j : ℕ) → j < n → key_of numbers j ≡ key → j < bound

  pub begins : (next : Option ℕ) → IsLargest (IsInBucket numbers capacity (bucket_of capacity key)) n next → Ahead next
  begins next largest = record { bound = n; within = omega arith; largest = largest; ahead = λ j below same. below }

  -- what has the key is in its bucket
  in_bucket : (j : ℕ) → key_of numbers j ≡ key → IsInBucket numbers capacity (bucket_of capacity key) j
  in_bucket j same = ap (bucket_of capacity) same

  -- where the walk is no place after it has the key
  none_after : (place : ℕ) → Ahead (Some place) → (j : ℕ) → place < j → j < n → key_of numbers j ≢ key
  none_after place a j after below same = a.largest.2 j after (a.ahead j below same) (in_bucket j same)

  module _ (used : ℕ) where
    -- a place with another key is walked past
    pub goes_on : LinksAreEarlier numbers capacity used → (place : ℕ) → place < used → Ahead (Some place) → key_of numbers place ≢ key → Ahead (link_of numbers place)
    goes_on links place inside a other = record {
      bound = place;
      within = omega (arith, a.largest.0);
      largest = subst (λ (b : ℕ). IsLargest (IsInBucket numbers capacity b) place (link_of numbers place)) a.largest.1 (links place inside);
      ahead = λ j below same. by j below same (cases_order j place);
    }
      where
        by : (j : ℕ) → j < n → key_of numbers j ≡ key → (j ≡ place) ⊎ ((j < place) ⊎ (place < j)) → j < place
        by j below same (inl here) = absurd (other (subst (λ (j : ℕ). key_of numbers j ≡ key) here same))
        by j below same (inr (inl before)) = before
        by j below same (inr (inr after)) = absurd (none_after place a j after below same)

    -- a place with the key is the last
    pub finds : (place : ℕ) → place < used → Ahead (Some place) → key_of numbers place ≡ key → IsLast (keys_of numbers used) n key (Some place)
    finds place inside a same =
        (omega (arith, a.largest.0), key_there numbers used place inside ∙ ap Some same, λ j after below there. none_after place a j after below (key_is numbers used j key there))

    -- at the end of the chain there is none
    pub ends : Ahead None → IsLast (keys_of numbers used) n key None
    ends a j below there =
        let same = key_is numbers used j key there in a.largest j (a.ahead j below same) (in_bucket j same)

-- how many places a walk may still see
abbrev pub left : Option ℕ → ℕ
left (Some place) = place + 1
left None = 0

pub left_fewer : (o : Option ℕ) (place : ℕ) → MatchOption o ⊤ (λ earlier. earlier < place) → left o < place + 1
left_fewer (Some earlier) place below = omega arith
left_fewer None place below = omega arith
