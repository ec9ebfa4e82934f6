-- The numbers below a bound that pass a test, each by its number among them. Assumes nothing.
use Rattle.std.proofs.Common.{◌≡◌, ℕ, zero, suc, ◌+◌, ◌<◌, Bool, true, false, List, [], ◌∷◌, ◌++◌, length, get_or, ◌==◌, sym, refl, ap, ◌∙◌, subst, add-one, ⊎_elim, arith}
use Rattle.std.specs.List.{position_or_len}
use Rattle.std.proofs.lemmas.List.{get_or_append_left, get_or_at, length_push}
use Rattle.std.proofs.lemmas.List.Sums.{position_or_len_is}
use Rattle.std.proofs.lemmas.Bool.{cases_Bool, cases_lt, eq-eqb, ne_eqb, false≢true}
use Rattle.molecules.proofs.Passing.{passing, passing_one, passing_none}

module _ (test : ℕ → Bool) where
  -- how many pass before a number
  abbrev pub rank : ℕ → ℕ
  rank n = length (passing test n)

  -- one number more, by what the test says of it: a fact of those that pass, and of those with the number behind them
  pub one_more : (P : List ℕ → Type 0) (n : ℕ) → (test n ≡ true → P (passing test n ++ (n ∷ []))) → (test n ≡ false → P (passing test n))
      → P (passing test (n + 1))
  one_more P n one none =
      ⊎_elim (λ e. subst P (sym (passing_one test n e)) (one e)) (λ e. subst P (sym (passing_none test n e)) (none e)) (cases_Bool (test n))

  -- what is said of each number that passes, by its place
  abbrev Each : (ℕ → ℕ → Type 0) → List ℕ → Type 0
  Each Q xs = (i : ℕ) → i < length xs → Q i (get_or xs i 0)

  each_push : (Q : ℕ → ℕ → Type 0) (xs : List ℕ) (x : ℕ) → Each Q xs → Q (length xs) x → Each Q (xs ++ (x ∷ []))
  each_push Q xs x each last i h =
      ⊎_elim (λ less. subst (Q i) (sym (get_or_append_left xs (x ∷ []) 0 i less)) (each i less))
      (λ past.
      let here : length xs ≡ i = omega (arith, length_push xs x) in
      subst (Q i) (sym (get_or_at xs x [] 0 i here)) (subst (λ j. Q j x) here last))
      (cases_lt i (length xs))

  -- a number below a bound that passes, and its rank
  pub record Ranked (n i k : ℕ) : Type 0 where
    pub below : k < n
    pub passes : test k ≡ true
    pub place : rank k ≡ i

  -- the numbers that pass stand by rank
  pub each_ranked : (n : ℕ) → (i : ℕ) → i < rank n → Ranked n i (get_or (passing test n) i 0)
  each_ranked zero i h = absurd (omega arith)
  each_ranked (suc n) i h =
      let before : Each (Ranked (suc n)) (passing test n) = λ i h. let at = each_ranked n i h in
      record { below = omega (arith, at.below); passes = at.passes; place = at.place } in
      subst (λ k. Each (Ranked (suc n)) (passing test k)) (add-one n)
      (one_more (Each (Ranked (suc n))) n
      (λ e. each_push (Ranked (suc n)) _ n before (record { below = omega arith; passes = e; place = refl }))
      (λ e. before))
      i h

  -- a number that passes stands at its rank
  abbrev Stands : ℕ → List ℕ → Type 0
  Stands c xs = (rank c < length xs) × (get_or xs (rank c) 0 ≡ c)

  pub stands_at : (n c : ℕ) → c < n → test c ≡ true → Stands c (passing test n)
  stands_at zero c h e = absurd (omega arith)
  stands_at (suc n) c h e =
      subst (λ k. Stands c (passing test k)) (add-one n)
      (one_more (Stands c) n
      (λ one.
      ⊎_elim
      (λ less. let before = stands_at n c less e in
      (omega (arith, before.0, length_push (passing test n) n), get_or_append_left _ (n ∷ []) 0 _ before.0 ∙ before.1))
      (λ past. let same : n ≡ c = omega arith in
      subst (λ k. Stands k (passing test n ++ (n ∷ []))) same
      (omega (arith, length_push (passing test n) n), get_or_at (passing test n) n [] 0 _ refl))
      (cases_lt c n))
      (λ none.
      ⊎_elim (λ less. stands_at n c less e)
      (λ past. let same : n ≡ c = omega arith in absurd (false≢true (sym none ∙ ap test same ∙ e)))
      (cases_lt c n)))

  -- so its rank is its number among those that pass
  pub number_is_rank : (n c : ℕ) → c < n → test c ≡ true → position_or_len (λ k. c == k) (passing test n) ≡ rank c
  number_is_rank n c h e =
      let at = stands_at n c h e in
      position_or_len_is (λ k. c == k) (passing test n) (rank c) 0 (omega (arith, at.0))
      (λ k less. ne_eqb c _ (λ same. let r = ap rank same ∙ (each_ranked n k (omega (arith, at.0))).place in omega (arith, r)))
      (λ there. eq-eqb c _ (sym at.1))
