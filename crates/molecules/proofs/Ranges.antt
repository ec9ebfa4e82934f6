-- The numbers that an inclusive range gives. Assumes nothing.
use Rattle.std.proofs.Common.{◌≡◌, ℕ, ◌+◌, ◌-◌, Bool, true, false, List, ◌∷◌, length, Some, None, Option, sym, refl, ap, ◌∙◌, add-one}
use Rattle.std.specs.List.{range_with_len}
use Rattle.std.specs.Range.{range_inclusive_start, range_inclusive_exhausted, range_inclusive_left, range_inclusive_steps}
use Rattle.std.specs.declared.ops.RangeInclusive.{RangeInclusive}
use Rattle.std.proofs.lemmas.Iterator.{YieldsList}
use Rattle.std.proofs.lemmas.Iterator.Consumers.{YieldsList-from_shown}
use Rattle.std.proofs.lemmas.List.FromFn.{length-range_with_len}

-- how a range of numbers steps, and how many numbers it has left
abbrev pub Steps : RangeInclusive ℕ → Option ℕ → RangeInclusive ℕ → Type 0
Steps = range_inclusive_steps (λ a b. b - a) (λ a b. b ≡ a + 1)

abbrev left : RangeInclusive ℕ → ℕ
left s = range_inclusive_left (λ a b. b - a) s

-- the numbers that it has left
abbrev pub shown : RangeInclusive ℕ → List ℕ
shown s = range_with_len (range_inclusive_start s) (left s)

ended : (s t : RangeInclusive ℕ) → Steps s None t → length (shown s) ≡ 0
ended s t h = length-range_with_len _ _ ∙ h.1.0

-- a spent range has none left, from wherever it would go on
moved : (s t : RangeInclusive ℕ) (b : Bool) → range_inclusive_exhausted t ≡ b → (range_inclusive_exhausted t ≡ false → range_inclusive_start t ≡ range_inclusive_start s + 1) → range_with_len (range_inclusive_start s + 1) (left t) ≡ shown t
moved s t false e on = ap (λ a. range_with_len a (left t)) (sym (on e))
moved s t true e on =
    let none : left t ≡ 0 = rw e in
    ap (range_with_len (range_inclusive_start s + 1)) none ∙ sym (ap (range_with_len (range_inclusive_start t)) none)

stepped : (s : RangeInclusive ℕ) (x : ℕ) (t : RangeInclusive ℕ) → Steps s (Some x) t → shown s ≡ x ∷ shown t
stepped s x t h =
    ap (range_with_len (range_inclusive_start s)) (sym h.1.1 ∙ add-one (left t))
    ∙ ap (λ l. range_inclusive_start s ∷ l) (moved s t _ refl h.1.2)
    ∙ ap (λ k. k ∷ shown t) (sym h.1.0)

-- it gives them in their order
pub yields_shown : (s : RangeInclusive ℕ) → YieldsList Steps (λ x. x) s (shown s)
yields_shown s = YieldsList-from_shown Steps (λ x. x) shown ended stepped s
