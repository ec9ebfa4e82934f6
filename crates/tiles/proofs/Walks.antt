-- What the walks over a position's used cells find: whether each tile is at home, and whether each number comes once.
-- Assumes nothing.
use Rattle.std.proofs.Common.{◌≡◌, ℕ, ◌+◌, ◌<◌, Bool, ◌&&◌, eqb, List, [], ◌∷◌, length, get_or, Decides, count_by, refl, subst, sym, ap, ◌∙◌, zero-add, arith}
use Rattle.std.specs.List.{list_all, enumerate_from, range_with_len}
use Rattle.std.proofs.lemmas.Bool.Decides.{Decides-at, Decides-like, Decides-by_and, Decides-eqb}
use Rattle.std.proofs.lemmas.List.FromFn.{length-range_with_len, get_or-range_with_len, length-enumerate_from, get_or-enumerate_from}
use Rattle.tiles.specs.Board.{home_tile, at_home_from}

-- a cell's number, beside what lies there, is the number of one of the cells
pub listed_below : (ts : List ℕ) (k : ℕ) (c : ℕ × ℕ) → k < length (enumerate_from 0 ts) → c ≡ get_or (enumerate_from 0 ts) k c → c.0 < length ts
listed_below ts k c h is =
    let long = length-enumerate_from 0 ts in
    let number : c.0 ≡ 0 + k = ap (λ p. p.0) (is ∙ get_or-enumerate_from 0 ts k c (omega arith)) in
    omega arith

-- whether each tile is at home, asked of the cells with their numbers
pub at_home_listed : (n i : ℕ) (ts : List ℕ) → list_all (λ (c : ℕ × ℕ). eqb c.1 (home_tile n c.0)) (enumerate_from i ts) ≡ at_home_from n i ts
at_home_listed n i [] = refl
at_home_listed n i (t ∷ ts) = ap (λ b. eqb t (home_tile n i) && b) (at_home_listed n (i + 1) ts)

-- a test of each number below n
pub once_decides : (us : List ℕ) (n : ℕ) (r : Bool) → r ≡ list_all (λ k. eqb (count_by (eqb k) us) 1) (range_with_len 0 n) → Decides r ((k : ℕ) → k < n → count_by (eqb k) us ≡ 1)
once_decides us n r e =
    let Once : ℕ → Type 0 = λ k. count_by (eqb k) us ≡ 1 in
    let each = Decides-by_and (λ k. eqb (count_by (eqb k) us) 1) Once (list_all (λ k. eqb (count_by (eqb k) us) 1)) (λ k. Decides-eqb _ 1) refl (λ _ _. refl) (range_with_len 0 n) in
    let long = length-range_with_len 0 n in
    let number = λ (k d : ℕ) (h : k < n). get_or-range_with_len 0 n k d h ∙ zero-add k in
    Decides-at r _ e
    (Decides-like _
    (λ all k h. subst Once (number k 0 h) (all k 0 (omega arith)))
    (λ all k d h. let low : k < n = omega arith in subst Once (sym (number k d low)) (all k low))
    each)
