-- The numbers below a bound that pass a test, and the list of goal places. Assumes nothing.
use Rattle.std.proofs.Common.{◌≡◌, ℕ, zero, suc, ◌+◌, ◌<◌, Bool, true, false, cond, List, [], ◌∷◌, ◌++◌, Contains, filter, sym, ap, ◌∙◌, subst, append-nil, add-one, ⊎_elim, arith}
use Rattle.std.specs.List.{All, range_with_len}
use Rattle.std.proofs.lemmas.List.FromFn.{length-range_with_len}
use Rattle.std.proofs.lemmas.List.Elements.{All-from_get_or, All-contains, All-filter, filter-append, filter_passes, Contains-append_left, Contains-push}
use Rattle.std.proofs.lemmas.Bool.{cases_lt, cond-true, cond-false}
use Rattle.pictures.specs.Pictures.{Shape}
use Rattle.molecules.specs.GoalPlaces.{is_goal_place, ListsExactly}
use Rattle.molecules.proofs.Below.{below_at, below_more}
use Rattle.molecules.proofs.Fitting.{is_goal_place_lem, is_goal_place_from}

-- each counted number is below the bound
counting_below : (n : ℕ) → All (λ k. k < n) (range_with_len 0 n)
counting_below n =
    All-from_get_or (λ k. k < n) (range_with_len 0 n) 0
    (λ i h. let inside : i < n = omega (arith, length-range_with_len 0 n) in omega (arith, below_at n i 0 inside))

-- what holds of a number, and of those below it, holds of those below the next
upto : (P : ℕ → Type 0) (n i : ℕ) → i < suc n → (i < n → P i) → P n → P i
upto P n i h less here = ⊎_elim less (λ past. let same : n ≡ i = omega arith in subst P same here) (cases_lt i n)

module _ (test : ℕ → Bool) where
  -- the numbers below n that pass
  abbrev pub passing : ℕ → List ℕ
  passing n = filter test (range_with_len 0 n)

  -- one number more, which passes or does not
  passing_more : (n : ℕ) → passing (n + 1) ≡ passing n ++ cond (test n) (n ∷ []) []
  passing_more n = ap (filter test) (below_more n) ∙ filter-append test (range_with_len 0 n) (n ∷ [])

  pub passing_one : (n : ℕ) → test n ≡ true → passing (n + 1) ≡ passing n ++ (n ∷ [])
  passing_one n e = passing_more n ∙ ap (λ l. passing n ++ l) (cond-true _ _ _ e)

  pub passing_none : (n : ℕ) → test n ≡ false → passing (n + 1) ≡ passing n
  passing_none n e = passing_more n ∙ ap (λ l. passing n ++ l) (cond-false _ _ _ e) ∙ append-nil _

  -- a number that passes is there
  passing_has : (n p : ℕ) → p < n → test p ≡ true → Contains (passing n) p
  passing_has zero p h e = absurd (omega arith)
  passing_has (suc n) p h e =
      subst (λ k. Contains (passing k) p) (add-one n)
      (upto (λ k. test k ≡ true → Contains (passing (n + 1)) k) n p h
      (λ less t. subst (λ l. Contains l p) (sym (passing_more n)) (Contains-append_left (passing n) _ p (passing_has n p less t)))
      (λ t. subst (λ l. Contains l n) (sym (passing_one n t)) (Contains-push (passing n) n)) e)

  -- and no other
  passing_only : (n p : ℕ) → Contains (passing n) p → (p < n) × (test p ≡ true)
  passing_only n p has = (
    All-contains (λ k. k < n) (passing n) p (All-filter test (λ k. k < n) (range_with_len 0 n) (counting_below n)) has,
    All-contains (λ k. test k ≡ true) (passing n) p (filter_passes test (range_with_len 0 n)) has,
  )

-- the list has the goal places, and nothing else
pub lists_exactly : (b m : Shape) → ListsExactly b m
lists_exactly b m p = (
  λ has. let h = passing_only (is_goal_place b m) _ p has in (h.0, is_goal_place_lem b m p h.1),
  λ h. passing_has (is_goal_place b m) _ p h.0 (is_goal_place_from b m p h.1),
)
