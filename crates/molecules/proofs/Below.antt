-- Tests of all numbers below a bound say what they should. Assumes nothing.
use Rattle.std.proofs.Common.{◌≡◌, ℕ, ◌+◌, ◌<◌, Bool, true, false, [], ◌∷◌, ◌++◌, length, get_or, sym, refl, ap, ◌∙◌, zero-add, arith}
use Rattle.std.specs.List.{list_all, range_with_len}
use Rattle.std.proofs.lemmas.List.{map-id}
use Rattle.std.proofs.lemmas.List.Elements.{All-from_get_or}
use Rattle.std.proofs.lemmas.List.Folds.{list_all-append, list_all_at, list_any_at, Any-from_list_any}
use Rattle.std.proofs.lemmas.List.FromFn.{length-range_with_len, get_or-range_with_len, map-range_with_len_more}
use Rattle.std.proofs.lemmas.List.Sums.{AllPass-from_list_all, list_all-from_AllPass}
use Rattle.std.proofs.lemmas.Bool.{and_from}
use Rattle.molecules.specs.Below.{some_below, every_below}

-- the numbers below a bound are listed in their order
pub below_at : (n i d : ℕ) → i < n → get_or (range_with_len 0 n) i d ≡ i
below_at n i d h = get_or-range_with_len 0 n i d h ∙ zero-add i

pub below_inside : (n i : ℕ) → i < n → i < length (range_with_len 0 n)
below_inside n i h = omega (arith, length-range_with_len 0 n)

-- one number more
pub below_more : (n : ℕ) → range_with_len 0 (n + 1) ≡ range_with_len 0 n ++ (n ∷ [])
below_more n = sym (map-id _) ∙ map-range_with_len_more (λ k. k) 0 n n (omega arith) ∙ ap (λ l. l ++ (n ∷ [])) (map-id _)

-- where all pass, each passes
pub every_below_lem : (n : ℕ) (p : ℕ → Bool) → every_below n p ≡ true → (i : ℕ) → i < n → p i ≡ true
every_below_lem n p e i h =
    sym (ap p (below_at n i 0 h)) ∙ AllPass-from_list_all p (range_with_len 0 n) e i 0 (below_inside n i h)

-- where each passes, all pass
pub every_below_from : (n : ℕ) (p : ℕ → Bool) → ((i : ℕ) → i < n → p i ≡ true) → every_below n p ≡ true
every_below_from n p each =
    list_all-from_AllPass p (range_with_len 0 n)
    (All-from_get_or (λ k. p k ≡ true) (range_with_len 0 n) 0
    (λ i h. let less : i < n = omega (arith, length-range_with_len 0 n) in ap p (below_at n i 0 less) ∙ each i less))

-- where one does not pass, not all pass
pub every_below_not : (n : ℕ) (p : ℕ → Bool) (i : ℕ) → i < n → p i ≡ false → every_below n p ≡ false
every_below_not n p i h e =
    list_all_at p (range_with_len 0 n) i 0 (below_inside n i h) (ap p (below_at n i 0 h) ∙ e)

-- where some pass, one does
pub some_below_lem : (n : ℕ) (p : ℕ → Bool) → some_below n p ≡ true → (i : ℕ) × (i < n) × (p i ≡ true)
some_below_lem n p e =
    let one = Any-from_list_any p (range_with_len 0 n) e in
    let less : one.0 < n = omega (arith, one.2, length-range_with_len 0 n) in
    (one.0, less, sym (ap p (sym one.3 ∙ below_at n one.0 one.1 less)) ∙ one.4)

-- where one passes, some pass
pub some_below_from : (n : ℕ) (p : ℕ → Bool) (i : ℕ) → i < n → p i ≡ true → some_below n p ≡ true
some_below_from n p i h e =
    list_any_at p (range_with_len 0 n) i 0 (below_inside n i h) (ap p (below_at n i 0 h) ∙ e)

-- the step of a loop that has found none that does not pass
pub every_below_more : (n : ℕ) (p : ℕ → Bool) → every_below n p ≡ true → p n ≡ true → every_below (n + 1) p ≡ true
every_below_more n p e h =
    ap (list_all p) (below_more n) ∙ list_all-append p (range_with_len 0 n) (n ∷ []) ∙ and_from _ _ e (and_from _ _ h refl)
