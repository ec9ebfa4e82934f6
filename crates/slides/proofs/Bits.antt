-- What one bit set in a word does to its bits, and to the cells of a set. Assumes nothing.
use Rattle.std.proofs.Common.{◌≡◌, ℕ, ◌*◌, ◌/◌, ◌%◌, ◌^◌, ◌<◌, Bool, false, cond, ◌||◌, eqb, ltb, w64, List, length, get_or, set, replicate, sym, refl, ap, ◌∙◌, subst, ⊎_elim, arith}
use lib.Bits.{bit_and, bit_or}
use Rattle.std.proofs.lemmas.Nat.Bits.{shr_and_one, bit_at-zero, bit_at_set_same, bit_at_set_other}
use Rattle.std.proofs.lemmas.List.{get_or-set_same, get_or-set_other, get_or-replicate}
use Rattle.std.proofs.lemmas.Bool.{cases_eq, cond_both, ltb-true, eq-eqb, ne_eqb}
use Rattle.std.proofs.lemmas.Bool.Decides.{nat_tests}
use Rattle.slides.specs.Sets.{bit}

-- bit k of a word, as a shift and a mask read it
pub bit_masked : (n k : ℕ) → eqb (bit_and (n / 2 ^ k) 1) 1 ≡ bit n k
bit_masked n k = ap (λ b. eqb b 1) (shr_and_one n k)

-- the bits of a word in which bit j is set
bit_set : (n j k : ℕ) → j < 64 → bit (bit_or n (1 * 2 ^ j % 2 ^ 64)) k ≡ (eqb k j || bit n k)
bit_set n j k h =
    ⊎_elim
    (λ same.
    let here = ap (λ b. eqb b 1) (bit_at_set_same w64 n j h) ∙ sym (ap (λ b. b || bit n j) (eq-eqb j j refl)) in
    subst (λ i. bit (bit_or n (1 * 2 ^ j % 2 ^ 64)) i ≡ (eqb i j || bit n i)) (sym same) here)
    (λ apart. ap (λ b. eqb b 1) (bit_at_set_other w64 n j h k apart) ∙ sym (ap (λ b. b || bit n k) (ne_eqb k j apart)))
    (cases_eq k j)

-- no cell is in four empty words
pub none_in : (k : ℕ) → cond (ltb k 256) (bit (get_or (replicate 4 0) (k / 64) 0) (k % 64)) false ≡ false
none_in k =
    cond_both (ltb k 256) (bit (get_or (replicate 4 0) (k / 64) 0) (k % 64)) false (λ b. b ≡ false)
    (λ e.
    let h = ltb-true k 256 e in
    ap (λ n. bit n (k % 64)) (get_or-replicate 4 (k / 64) 0 0 (omega arith)) ∙ ap (λ b. eqb b 1) (bit_at-zero (k % 64)))
    (λ e. refl)

-- a cell past all is in neither set
within : (k cell : ℕ) (x y : Bool) → cell < 256 → x ≡ (eqb k cell || y) → cond (ltb k 256) x false ≡ (eqb k cell || cond (ltb k 256) y false)
within k cell x y small also = grind (arith, nat_tests)

-- the words with the bit of one cell more
module _ (ws : List ℕ) (cell : ℕ) (four : length ws ≡ 4) (small : cell < 256) where
  abbrev more : List ℕ
  more = set ws (cell / 64) (bit_or (get_or ws (cell / 64) 0) ((1 * 2 ^ (cell % 64)) % 2 ^ 64))

  abbrev Also : ℕ → Type 0
  Also k = bit (get_or more (k / 64) 0) (k % 64) ≡ (eqb k cell || bit (get_or ws (k / 64) 0) (k % 64))

  also_same : (k : ℕ) → k / 64 ≡ cell / 64 → Also k
  also_same k same =
      let n = (1 * 2 ^ (cell % 64)) % 2 ^ 64 in
      let here : get_or more (k / 64) 0 ≡ bit_or (get_or ws (k / 64) 0) n =
      ap (λ i. get_or more i 0) same ∙ get_or-set_same ws (cell / 64) _ 0 (omega arith) ∙ ap (λ i. bit_or (get_or ws i 0) n) (sym same) in
      let whole : eqb (k % 64) (cell % 64) ≡ eqb k cell = grind (arith, nat_tests) in
      ap (λ m. bit m (k % 64)) here
      ∙ bit_set (get_or ws (k / 64) 0) (cell % 64) (k % 64) (omega arith)
      ∙ ap (λ b. b || bit (get_or ws (k / 64) 0) (k % 64)) whole

  also_other : (k : ℕ) → (k / 64 ≡ cell / 64 → ⊥) → Also k
  also_other k apart =
      let not-it : eqb k cell ≡ false = ne_eqb k cell (λ e. apart (ap (λ n. n / 64) e)) in
      ap (λ m. bit m (k % 64)) (get_or-set_other ws (cell / 64) (k / 64) _ 0 apart)
      ∙ sym (ap (λ b. b || bit (get_or ws (k / 64) 0) (k % 64)) not-it)

  -- the cells of the words with one more
  pub one_more : (k : ℕ) → cond (ltb k 256) (bit (get_or more (k / 64) 0) (k % 64)) false ≡ (eqb k cell || cond (ltb k 256) (bit (get_or ws (k / 64) 0) (k % 64)) false)
  one_more k =
      let also : Also k = ⊎_elim (also_same k) (also_other k) (cases_eq (k / 64) (cell / 64)) in
      within k cell (bit (get_or more (k / 64) 0) (k % 64)) (bit (get_or ws (k / 64) 0) (k % 64)) small also
