-- The steps of a search end in one state. Assumes nothing.
use Rattle.std.proofs.Common.{◌≡◌, ℕ, zero, suc, ◌<◌, ◌≤◌, ◌⊎◌, inl, inr, refl, sym, ap, subst, ◌∙◌, arith}
use Rattle.std.proofs.lemmas.Bool.{cases_eq, cases_order}
use Rattle.puzzle.specs.Meaning.{Meaning, Lawful}
use Rattle.search_theory.specs.declared.Verdict.TheVariants.{Running}
use Rattle.search_theory.specs.Steps.{State, Step, Steps, none, next, first_state}
use Rattle.search_theory.proofs.Stepping.{Honest, first_state_honest}
use Rattle.search_theory.proofs.Unique.{step_unique}
use Rattle.search_theory.proofs.Advancing.{step_running, steps_honest}

module _ {P : Type 0} (m : Meaning P) (capacity : ℕ) (lawful : Lawful m) (first : State P) (honest : Honest m capacity first) where
  -- so many steps have one outcome
  steps_unique : (n : ℕ) (a b : State P) → Steps m capacity first n a → Steps m capacity first n b → a ≡ b
  steps_unique zero a b none none = refl
  steps_unique (suc n) a b (next {mid = x} before one) (next {mid = y} also other) =
      let same : x ≡ y = steps_unique n x y before also in
      step_unique m capacity lawful y (steps_honest m capacity lawful first n y also honest) a b (subst (λ t. Step m capacity t a) same one) other

  -- the state after fewer steps
  record Passes (n : ℕ) : Type 0 where
    state : State P
    steps : Steps m capacity first n state
    runs : state.verdict ≡ Running

  passes : (n k : ℕ) (b : State P) → n < k → Steps m capacity first k b → Passes n
  passes n zero b fewer none = absurd (omega arith)
  passes n (suc k) b fewer (next {mid = mid} before one) = by_number (cases_eq n k) (λ less. passes n k mid less before)
    where
      by_number : (n ≡ k) ⊎ (n ≡ k → ⊥) → (n < k → Passes n) → Passes n
      by_number (inl same) earlier = record { state = mid; steps = subst (λ i. Steps m capacity first i mid) (sym same) before; runs = step_running m capacity mid b one }
      by_number (inr other) earlier = earlier (omega arith)

  -- no steps go on where they end
  stops : (n k : ℕ) (a b : State P) → Steps m capacity first n a → (a.verdict ≡ Running → ⊥) → n < k → Steps m capacity first k b → ⊥
  stops n k a b steps final fewer more =
      let p = passes n k b fewer more in
      final (ap (λ (t : State P). t.verdict) (steps_unique n a p.state steps p.steps) ∙ p.runs)

  last_unique : (n k : ℕ) (a b : State P) → Steps m capacity first n a → (a.verdict ≡ Running → ⊥) → Steps m capacity first k b → (b.verdict ≡ Running → ⊥) → a ≡ b
  last_unique n k a b one ended other final = by_order (cases_order n k)
    where
      by_order : (n ≡ k) ⊎ ((n < k) ⊎ (k < n)) → a ≡ b
      by_order (inl same) = steps_unique k a b (subst (λ i. Steps m capacity first i a) same one) other
      by_order (inr (inl fewer)) = absurd (stops n k a b one ended fewer other)
      by_order (inr (inr more)) = absurd (stops k n b a other final more one)

-- whatever their number, the steps from the start that end with a final verdict end in one state
pub ends_unique : {P : Type 0} (m : Meaning P) (capacity : ℕ) → Lawful m → 1 ≤ capacity → (n k : ℕ) (a b : State P)
    → Steps m capacity (first_state m capacity) n a → (a.verdict ≡ Running → ⊥) → Steps m capacity (first_state m capacity) k b → (b.verdict ≡ Running → ⊥) → a ≡ b
ends_unique m capacity lawful some = last_unique m capacity lawful (first_state m capacity) (first_state_honest m capacity lawful some)
