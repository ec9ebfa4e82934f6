-- Steps one after another. Assumes nothing.
use Rattle.std.proofs.Common.{◌≡◌, ℕ, zero, suc, ◌+◌, refl, ap, arith}
use Rattle.puzzle.specs.Meaning.{Meaning, Lawful}
use Rattle.search_theory.specs.declared.Verdict.TheVariants.{Running}
use Rattle.search_theory.specs.Steps.{State, Step, finishes, expands, overflows, Steps, none, next}
use Rattle.search_theory.proofs.Stepping.{Honest, step_honest}

module _ {P : Type 0} (m : Meaning P) (capacity : ℕ) where
  -- only a running search takes a step
  pub step_running : (old new : State P) → Step m capacity old new → old.verdict ≡ Running
  step_running old new (finishes place node runs taken fin same) = runs
  step_running old new (expands place node nodes verdict runs taken unfinished moves on same) = runs
  step_running old new (overflows place number node nodes runs taken unfinished moves below over same) = runs

  -- a step is counted
  step_counted : (old new : State P) → Step m capacity old new → new.steps ≡ old.steps + 1
  step_counted old new (finishes place node runs taken fin same) = ap (λ (t : State P). t.steps) same
  step_counted old new (expands place node nodes verdict runs taken unfinished moves on same) = ap (λ (t : State P). t.steps) same
  step_counted old new (overflows place number node nodes runs taken unfinished moves below over same) = ap (λ (t : State P). t.steps) same

  pub steps_counted : (first : State P) (n : ℕ) (last : State P) → Steps m capacity first n last → last.steps ≡ first.steps + n
  steps_counted first zero last none = omega arith
  steps_counted first (suc n) last (next {mid = mid} before one) =
      let some = steps_counted first n mid before in
      let more = step_counted mid last one in
      omega arith

  -- what still runs ran before
  pub steps_running : (first : State P) (n : ℕ) (last : State P) → Steps m capacity first n last → last.verdict ≡ Running → first.verdict ≡ Running
  steps_running first zero last none runs = runs
  steps_running first (suc n) last (next {mid = mid} before one) runs = steps_running first n mid before (step_running mid last one)

  -- after a final verdict there are no steps
  pub steps_final : (first : State P) (n : ℕ) (last : State P) → Steps m capacity first n last → (first.verdict ≡ Running → ⊥) → last ≡ first
  steps_final first zero last none final = refl
  steps_final first (suc n) last (next {mid = mid} before one) final = absurd (final (steps_running first n mid before (step_running mid last one)))

  pub steps_idle : (first : State P) (n : ℕ) (last : State P) → Steps m capacity first n last → (first.verdict ≡ Running → ⊥) → n ≡ 0
  steps_idle first zero last none final = refl
  steps_idle first (suc n) last (next {mid = mid} before one) final = absurd (final (steps_running first n mid before (step_running mid last one)))

  pub steps_honest : Lawful m → (first : State P) (n : ℕ) (last : State P) → Steps m capacity first n last → Honest m capacity first → Honest m capacity last
  steps_honest lawful first zero last none honest = honest
  steps_honest lawful first (suc n) last (next {mid = mid} before one) honest = step_honest m capacity lawful mid last (steps_honest lawful first n mid before honest) one
