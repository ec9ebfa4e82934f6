-- The largest number of which something holds: where it is, and under what it stays. Assumes nothing.
use Rattle.std.proofs.Common.{◌≡◌, ℕ, ◌+◌, ◌<◌, ◌≤◌, Some, None, Option, subst, ◌⊎◌, inl, inr, arith}
use Rattle.std.specs.Prelude.{MatchOption, ⊤}
use Rattle.std.proofs.lemmas.Bool.{cases_eq}
use Rattle.hash_index.specs.inside.Chains.{IsLargest}

-- the largest for two that agree below n
pub largest_alike : (Q R : ℕ → Type 0) (n : ℕ) (o : Option ℕ) → ((j : ℕ) → j < n → Q j → R j) → ((j : ℕ) → j < n → R j → Q j) → IsLargest Q n o → IsLargest R n o
largest_alike Q R n (Some place) to from l = (l.0, to place l.0 l.1, λ j after below r. l.2 j after below (from j below r))
largest_alike Q R n None to from l = λ j below r. l j below (from j below r)

-- the largest stays where it does not hold of one number more
pub largest_more : (Q : ℕ → Type 0) (n : ℕ) (o : Option ℕ) → (Q n → ⊥) → IsLargest Q n o → IsLargest Q (n + 1) o
largest_more Q n (Some place) not l = (omega (arith, l.0), l.1, λ j after below q. by j after below q (cases_eq j n))
  where
    by : (j : ℕ) → place < j → j < n + 1 → Q j → (j ≡ n) ⊎ (j ≡ n → ⊥) → ⊥
    by j after below q (inl same) = not (subst Q same q)
    by j after below q (inr other) = l.2 j after (omega (arith, other)) q
largest_more Q n None not l = λ j below q. by j below q (cases_eq j n)
  where
    by : (j : ℕ) → j < n + 1 → Q j → (j ≡ n) ⊎ (j ≡ n → ⊥) → ⊥
    by j below q (inl same) = not (subst Q same q)
    by j below q (inr other) = l j (omega (arith, other)) q

-- the largest number below n is below n
pub largest_below : (Q : ℕ → Type 0) (n : ℕ) (o : Option ℕ) → IsLargest Q n o → MatchOption o ⊤ (λ place. place < n)
largest_below Q n (Some place) largest = largest.0
largest_below Q n None largest = tt

pub below_more : (o : Option ℕ) (n m : ℕ) → n ≤ m → MatchOption o ⊤ (λ place. place < n) → MatchOption o ⊤ (λ place. place < m)
below_more (Some place) n m le below = omega arith
below_more None n m le below = tt
