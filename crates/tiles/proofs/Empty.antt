-- The first empty cell, found in all cells at once. Assumes nothing.
use Rattle.std.proofs.Common.{◌≡◌, ℕ, ◌+◌, ◌-◌, ◌*◌, ◌/◌, ◌%◌, ◌^◌, ◌<◌, ◌≤◌, min, Bool, true, false, cond, eqb, ltb, not, List, [], ◌∷◌, Some, None, take, length, zero, suc, get_or, refl, sym, ap, ◌∙◌, arith, ⊎_elim, ◌⊎◌, inl, inr}
use native.Mathlib.Nat.{div-div-eq-div-mul, mul_comm}
use Rattle.std.specs.Prelude.{bit_and, bit_or, ◌==◌}
use Rattle.std.specs.Bool.{then_some}
use Rattle.std.specs.Int.{w64, bit_at, trailing_zeros}
use Rattle.std.specs.Int.Count.{trailing_of_zero}
use Rattle.std.specs.List.{position, position_or_len}
use Rattle.std.proofs.lemmas.Bool.{cases_lt, cond-true, cond-false, lt-ltb, le-ltb, agree_below_at, eq-eqb, eqb-true, ne_eqb}
use Rattle.std.proofs.lemmas.Nat.{or_lt, and_le_r, and_mask}
use Rattle.std.proofs.lemmas.Nat.Bits.{bit_at-zero, bit_at_and, bit_at_or, bit_at_not, bit_at-trailing_zeros}
use Rattle.std.proofs.lemmas.List.{length-take-le}
use Rattle.std.proofs.lemmas.List.Sums.{position_or_len_is}
use Rattle.tiles.specs.Board.{cells, blank_of}
use Rattle.tiles.proofs.Board.{length_cells, cell_bits}

-- the lowest bit of each cell
abbrev lowest_bits : ℕ
lowest_bits = 1229782938247303441

lowest : (i : ℕ) → i < 64 → eqb (bit_at lowest_bits i) 1 ≡ eqb (i % 4) 0
lowest i h = agree_below_at (λ k. eqb (bit_at lowest_bits k) 1) (λ k. eqb (k % 4) 0) 64 i refl h

module _ (p : ℕ) (fits : p < 2 ^ 64) where
  -- in its lowest bit, whether any bit of a cell is set
  abbrev taken : ℕ
  taken = bit_or (bit_or (bit_or p (p / 2)) (p / 4)) (p / 8)

  abbrev marks : ℕ
  marks = bit_and (18446744073709551615 - taken) lowest_bits

  shifted : (k i : ℕ) → p / k / 2 ^ i ≡ p / 2 ^ i / k
  shifted k i = div-div-eq-div-mul p k (2 ^ i) ∙ ap (λ m. p / m) (mul_comm k (2 ^ i)) ∙ sym (div-div-eq-div-mul p (2 ^ i) k)

  taken_fits : taken < 2 ^ 64
  taken_fits = or_lt 64 _ _ (or_lt 64 _ _ (or_lt 64 _ _ fits (omega arith)) (omega arith)) (omega arith)

  -- a bit of the marks is set where it is a cell's lowest and four bits from there on are not
  mark_at : (i : ℕ) → i < 64 → bit_at marks i ≡ min (1 - bit_at taken i) (bit_at lowest_bits i)
  mark_at i h = bit_at_and _ lowest_bits i ∙ ap (λ b. min b (bit_at lowest_bits i)) (bit_at_not w64 taken i taken_fits h)

  taken_at : (i : ℕ) → 1 - bit_at taken i ≡ 1 - min 1 (p / 2 ^ i % 16)
  taken_at i = omega (
    arith,
    bit_at_or (bit_or (bit_or p (p / 2)) (p / 4)) (p / 8) i,
    bit_at_or (bit_or p (p / 2)) (p / 4) i,
    bit_at_or p (p / 2) i,
    shifted 2 i,
    shifted 4 i,
    shifted 8 i,
  )

  -- a cell's mark is set where the cell is empty
  marked : (c : ℕ) → c < 16 → bit_at marks (4 * c) ≡ 1 - min 1 (get_or (cells p) c 0)
  marked c h =
      let low : bit_at lowest_bits (4 * c) ≡ 1 = eqb-true _ _ (lowest (4 * c) (omega arith) ∙ eq-eqb _ _ (omega arith)) in
      let cell : p / 2 ^ (4 * c) % 16 ≡ get_or (cells p) c 0 = sym (and_mask (p / 2 ^ (4 * c)) 4) ∙ cell_bits p c h in
      omega (arith, mark_at (4 * c) (omega arith), taken_at (4 * c), ap (min 1) cell)

  -- no other bit is set
  unmarked : (i : ℕ) → i < 64 → bit_at marks i ≡ 1 → i % 4 ≡ 0
  unmarked i h is_set = eqb-true _ _ (sym (lowest i h) ∙ eq-eqb _ _ (omega (arith, mark_at i h)))

  pub first_empty : trailing_zeros w64 marks / 4 ≡ position_or_len (λ t. eqb t 0) (cells p)
  first_empty = ⊎_elim some none (cases_lt 0 marks)
    where
      found : (c : ℕ) → c ≤ 16 → ((k : ℕ) → k < c → bit_at marks (4 * k) ≡ 0) → (c < 16 → bit_at marks (4 * c) ≡ 1) → c ≡ position_or_len (λ t. eqb t 0) (cells p)
      found c few before here = sym (position_or_len_is (λ t. eqb t 0) (cells p) c 0 (omega (arith, length_cells p))
          (λ k h. ne_eqb _ _ (λ e. omega (arith, before k h, marked k (omega arith))))
          (λ h. let inside : c < 16 = omega (arith, length_cells p) in eq-eqb _ _ (omega (arith, here inside, marked c inside))))

      some : 0 < marks → trailing_zeros w64 marks / 4 ≡ position_or_len (λ t. eqb t 0) (cells p)
      some set =
          let low = bit_at-trailing_zeros w64 marks set (omega (arith, and_le_r (18446744073709551615 - taken) lowest_bits)) in
          let whole : 4 * (trailing_zeros w64 marks / 4) ≡ trailing_zeros w64 marks = omega (arith, unmarked _ low.0 low.1) in
          found (trailing_zeros w64 marks / 4) (omega (arith, low.0)) (λ k h. low.2 (4 * k) (omega arith)) (λ _. ap (bit_at marks) whole ∙ low.1)

      none : marks ≤ 0 → trailing_zeros w64 marks / 4 ≡ position_or_len (λ t. eqb t 0) (cells p)
      none empty =
          let nothing : marks ≡ 0 = omega arith in
          ap (λ m. trailing_zeros w64 m / 4) nothing ∙ ap (λ t. t / 4) (trailing_of_zero 64)
          ∙ found 16 (omega arith) (λ k h. ap (λ m. bit_at m (4 * k)) nothing ∙ bit_at-zero (4 * k)) (λ h. absurd (omega arith))

-- the first that passes among the first n, if it is one of them
front_first : (test : ℕ → Bool) (n : ℕ) (xs : List ℕ) → position_or_len test (take n xs) ≡ min n (position_or_len test xs)
front_first test zero xs = omega arith
front_first test (suc n) [] = omega arith
front_first test (suc n) (x ∷ xs) = by (test x) (front_first test n xs)
  where
    by : (b : Bool) → position_or_len test (take n xs) ≡ min n (position_or_len test xs) → cond (not b) (1 + position_or_len test (take n xs)) 0 ≡ min (suc n) (cond (not b) (1 + position_or_len test xs) 0)
    by true e = omega arith
    by false e = omega arith

first_in_front : (test : ℕ → Bool) (n : ℕ) (xs : List ℕ) → n ≤ length xs → position test (take n xs) ≡ then_some (ltb (position_or_len test xs) n) (position_or_len test xs)
first_in_front test n xs inside =
    by (position_or_len test xs) (position_or_len test (take n xs)) (length (take n xs)) (front_first test n xs) (length-take-le n xs inside) (cases_lt _ n)
  where
    by : (all front long : ℕ) → front ≡ min n all → long ≡ n → (all < n) ⊎ (n ≤ all) → cond (ltb front long) (Some front) None ≡ then_some (ltb all n) all
    by all front long least is_n (inl here) =
        let same : front ≡ all = omega arith in
        cond-true (ltb front long) _ _ (lt-ltb _ _ (omega arith)) ∙ ap Some same ∙ sym (ap (λ b. then_some b all) (lt-ltb _ _ here))
    by all front long least is_n (inr past) =
        cond-false (ltb front long) _ _ (le-ltb _ _ (omega arith)) ∙ sym (ap (λ b. then_some b all) (le-ltb _ _ past))

-- the blank is on the first empty cell, if the board has that cell
pub blank_first : (n p : ℕ) → n ≤ 16 → blank_of (take n (cells p)) ≡ then_some (ltb (position_or_len (λ t. t == 0) (cells p)) n) (position_or_len (λ t. t == 0) (cells p))
blank_first n p few = first_in_front (λ t. t == 0) n (cells p) (omega (arith, length_cells p))
