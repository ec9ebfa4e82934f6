-- Listing the numbers that pass a test, each with its number among them. Assumes nothing.
use Rattle.std.proofs.Common.{◌≡◌, ℕ, ◌+◌, ◌-◌, ◌<◌, ◌≤◌, ◌≢◌, Bool, true, false, List, [], ◌∷◌, ◌++◌, length, get_or, set, replicate, take, sym, refl, ap, ◌∙◌, ⊎_elim, arith}
use Rattle.std.proofs.lemmas.List.{length-set, length-replicate, get_or-replicate, get_or_past, length-take-le, take_more_set, get_or-set_same, get_or-set_other}
use Rattle.std.proofs.lemmas.Bool.{cases_eq, cases_lt, false≢true}
use Rattle.molecules.proofs.Passing.{passing, passing_one, passing_none}
use Rattle.pattern_databases.proofs.Numbering.{rank}

module _ (test : ℕ → Bool) where
  -- those below a bound that pass are listed, and each has its number
  pub record Listed (bound : ℕ) (cells numbers : List ℕ) (count : ℕ) : Type 0 where
    pub long : length cells ≡ 256
    pub numbers_long : length numbers ≡ 256
    pub few : count ≤ bound
    pub listed : take count cells ≡ passing test bound
    pub numbered : (k : ℕ) → k < bound → test k ≡ true → get_or numbers k 0 ≡ rank test k
    -- the others have some number
    pub within : (k : ℕ) → get_or numbers k 0 ≤ count - 1

  -- none yet
  pub listed_start : Listed 0 (replicate 256 0) (replicate 256 0) 0
  listed_start = record {
    long = length-replicate {A = ℕ} 256 0;
    numbers_long = length-replicate {A = ℕ} 256 0;
    few = omega arith;
    listed = refl;
    numbered = λ k h. absurd (omega arith);
    within = λ k. ⊎_elim
        (λ inside. omega (arith, get_or-replicate {A = ℕ} 256 k 0 0 inside))
        (λ past. omega (arith, get_or_past {X = ℕ} (replicate 256 0) k 0 (omega (arith, length-replicate {A = ℕ} 256 0))))
        (cases_lt k 256);
  }

  counted : (bound : ℕ) (cells numbers : List ℕ) (count : ℕ) → bound ≤ 256 → Listed bound cells numbers count → count ≡ rank test bound
  counted bound cells numbers count fits l = sym (length-take-le count cells (omega (arith, l.few, l.long))) ∙ ap length l.listed

  -- the next number passes
  pub listed_one : (bound : ℕ) (cells numbers : List ℕ) (count : ℕ) → bound < 256 → test bound ≡ true → Listed bound cells numbers count
      → Listed (bound + 1) (set cells count bound) (set numbers bound count) (count + 1)
  listed_one bound cells numbers count fits passes l = record {
    long = length-set cells count bound ∙ l.long;
    numbers_long = length-set numbers bound count ∙ l.numbers_long;
    few = omega (arith, l.few);
    listed = take_more_set cells count bound (omega (arith, l.few, l.long)) ∙ ap (λ xs. xs ++ (bound ∷ [])) l.listed ∙ sym (passing_one test bound passes);
    numbered = λ k h e.
        ⊎_elim
        (λ (here : k ≡ bound). ap (λ i. get_or (set numbers bound count) i 0) here
        ∙ get_or-set_same numbers bound count 0 (omega (arith, l.numbers_long))
        ∙ counted bound cells numbers count (omega arith) l ∙ ap (rank test) (sym here))
        (λ (other : k ≢ bound). get_or-set_other numbers bound k count 0 other ∙ l.numbered k (omega arith) e)
        (cases_eq k bound);
    within = λ k.
        ⊎_elim
        (λ (here : k ≡ bound).
        let is = ap (λ i. get_or (set numbers bound count) i 0) here ∙ get_or-set_same numbers bound count 0 (omega (arith, l.numbers_long)) in
        omega arith)
        (λ (other : k ≢ bound). omega (arith, get_or-set_other numbers bound k count 0 other, l.within k))
        (cases_eq k bound);
  }

  -- the next number does not pass
  pub listed_none : (bound : ℕ) (cells numbers : List ℕ) (count : ℕ) → test bound ≡ false → Listed bound cells numbers count
      → Listed (bound + 1) cells numbers count
  listed_none bound cells numbers count fails l = record {
    long = l.long;
    numbers_long = l.numbers_long;
    few = omega (arith, l.few);
    listed = l.listed ∙ sym (passing_none test bound fails);
    numbered = λ k h e.
        ⊎_elim (λ (here : k ≡ bound). absurd (false≢true (sym fails ∙ ap test (sym here) ∙ e)))
        (λ (other : k ≢ bound). l.numbered k (omega arith) e)
        (cases_eq k bound);
    within = l.within;
  }

  -- at the end
  pub listed_count : (bound : ℕ) (cells numbers : List ℕ) (count : ℕ) → bound ≤ 256 → Listed bound cells numbers count
      → count ≡ length (passing test bound)
  listed_count = counted
