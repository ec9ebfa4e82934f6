-- Where each slot has a place of its own, there are as many places at least. Assumes nothing.
use Rattle.std.proofs.Common.{◌≡◌, ◌≢◌, ℕ, ◌+◌, ◌<◌, ◌≤◌, cond, eqb, map, refl, sym, ◌∙◌, arith, ⊎_elim}
use Rattle.std.specs.List.{range_with_len}
use Rattle.std.proofs.lemmas.Bool.{cases_lt, cond-true, cond-false, eq-eqb, ne_eqb}
use Rattle.std.proofs.lemmas.List.Folds.{list_any_at}
use Rattle.std.proofs.lemmas.List.FromFn.{length-map-range_with_len, get_or-map-range_with_len}
use Rattle.std.proofs.lemmas.Map.Steps.{le-length_from_below}

-- each number below n is at a place below m
all_reached : (f : ℕ → ℕ) (n m : ℕ) → ((q : ℕ) → q < n → (i : ℕ) × (i < m) × (f i ≡ q)) → n ≤ m
all_reached f n m reach =
    omega (
      arith,
      length-map-range_with_len f 0 m,
      le-length_from_below (map f (range_with_len 0 m)) n (λ q h.
          let found = reach q h in
          list_any_at (eqb q) (map f (range_with_len 0 m)) found.0 0 (omega (arith, length-map-range_with_len f 0 m, found.1)) (eq-eqb q _ (sym (get_or-map-range_with_len f 0 m found.0 found.0 0 found.1 (omega arith) ∙ found.2)))),
    )

-- a place in no slot leaves one more than the slots
pub one_more : (slot at : ℕ → ℕ) (n m place : ℕ) → place < m → ((j : ℕ) → j < n → (at j < m) × (at j ≢ place) × (slot (at j) ≡ j)) → n + 1 ≤ m
one_more slot at n m place inside slots = all_reached numbered (n + 1) m reach
  where
    numbered : ℕ → ℕ
    numbered i = cond (eqb i place) n (slot i)

    reach : (q : ℕ) → q < n + 1 → (i : ℕ) × (i < m) × (numbered i ≡ q)
    reach q h =
        ⊎_elim
        (λ (less : q < n).
        (at q, (slots q less).0, cond-false (eqb (at q) place) n (slot (at q)) (ne_eqb _ _ (slots q less).1) ∙ (slots q less).2))
        (λ (most : n ≤ q).
        let last : n ≡ q = omega arith in
        (place, inside, cond-true (eqb place place) n (slot place) (eq-eqb place place refl) ∙ last))
        (cases_lt q n)
