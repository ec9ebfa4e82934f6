-- Bytes that all pass a test, one part after another. Assumes nothing.
use Rattle.std.proofs.Common.{◌≡◌, ℕ, suc, ◌+◌, Bool, true, false, cond, List, [], ◌∷◌, ◌++◌, length, refl, arith}
use Rattle.std.specs.Char.{is_ascii_digit}
use Rattle.std.specs.List.{prefix_len}
use Rattle.std.specs.Str.{all_ascii_digits}
use Rattle.std.proofs.lemmas.Bool.{and_parts}
use Rattle.std.proofs.lemmas.Bool.Decides.{nat_tests}

module _ (p : ℕ → Bool) where
  abbrev pub Whole : List ℕ → Type 0
  Whole l = prefix_len p l ≡ length l

  pub whole_append : (a b : List ℕ) → Whole a → Whole b → Whole (a ++ b)
  whole_append [] b f g = g
  whole_append (c ∷ a) b f g = by (p c) f (λ h. whole_append a b h g)
    where
      by : (t : Bool) → cond t (1 + prefix_len p a) 0 ≡ suc (length a) → (Whole a → Whole (a ++ b)) → cond t (1 + prefix_len p (a ++ b)) 0 ≡ suc (length (a ++ b))
      by true h more = omega (arith, more (omega arith))
      by false h more = absurd (omega arith)

  -- digits, where each digit passes
  pub whole_digits : ((c : ℕ) → is_ascii_digit c ≡ true → p c ≡ true) → (ds : List ℕ) → all_ascii_digits ds ≡ true → Whole ds
  whole_digits digits [] all = refl
  whole_digits digits (d ∷ ds) all =
      let both = and_parts _ _ all in more (p d) (digits d both.0) (whole_digits digits ds both.1)
    where
      more : (t : Bool) {k j : ℕ} → t ≡ true → k ≡ j → cond t (1 + k) 0 ≡ suc j
      more t {k} {j} is same = grind (arith, nat_tests)
