-- A loop that writes the elements of a list one after the other. Assumes nothing.
use Rattle.std.proofs.Common.{◌≡◌, ℕ, ◌+◌, ◌<◌, List, length, get_or, set, sym, ◌∙◌, subst, ap, ⊎_elim, arith}
use Rattle.std.proofs.lemmas.List.{length-set, get_or-set_same, get_or-set_other}
use Rattle.std.proofs.lemmas.Bool.{cases_eq}

-- the first i of n elements are what belongs there
pub record Filled {X : Type 0} (Belongs : ℕ → X → Type 0) (n i : ℕ) (xs : List X) (d : X) : Type 0 where
  pub long : length xs ≡ n
  pub each : (k : ℕ) → k < i → Belongs k (get_or xs k d)

pub filled_more : {X : Type 0} (Belongs : ℕ → X → Type 0) (n i : ℕ) (xs : List X) (d y : X) → Filled Belongs n i xs d → i < n → Belongs i y → Filled Belongs n (i + 1) (set xs i y) d
filled_more {X} Belongs n i xs d y filled inside here = record { long = length-set xs i y ∙ filled.long; each = each }
  where
    each : (k : ℕ) → k < i + 1 → Belongs k (get_or (set xs i y) k d)
    each k below =
        ⊎_elim
        (λ same. subst (Belongs k) (sym (ap (λ j. get_or (set xs i y) j d) same ∙ get_or-set_same xs i y d (omega (arith, filled.long)))) (subst (λ j. Belongs j y) (sym same) here))
        (λ other. subst (Belongs k) (sym (get_or-set_other xs i k y d other)) (filled.each k (omega arith)))
        (cases_eq k i)
