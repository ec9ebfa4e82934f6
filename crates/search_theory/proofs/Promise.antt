-- The promise of a search is kept for every list of calls. Assumes nothing.
use Rattle.std.proofs.Common.{◌≡◌, ℕ, ◌+◌, ◌*◌, ◌<◌, ◌≤◌, ◌∷◌, length, Some, refl, sym, ap, subst, ◌∙◌, arith, mul-le-mul_left}
use Rattle.std.proofs.lemmas.Option.{same_Some}
use Rattle.std.proofs.lemmas.Bool.{true≢false}
use Rattle.puzzle.specs.Meaning.{Meaning, Lawful}
use Rattle.search_theory.specs.declared.Verdict.{Verdict}
use Rattle.search_theory.specs.declared.Verdict.TheVariants.{Running, Solved, Unsolvable, TableFull}
use Rattle.search_theory.specs.Steps.{State, Steps, none}
use Rattle.search_theory.specs.Calls.{Search, AllCallsFor, Call, Happens, then}
use Rattle.search_theory.specs.inside.Invariants.{SearchInvariant}
use Rattle.search_theory.specs.Promise.{Promise, Says, StandsAfter}
use Rattle.search_theory.proofs.Weights.{open_weighs}
use Rattle.search_theory.proofs.Crowds.{distinct_positions}
use Rattle.search_theory.proofs.Stepping.{Honest, says_that}
use Rattle.search_theory.proofs.Stepping as stepping
use Rattle.search_theory.proofs.Unique.{step_unique}
use Rattle.search_theory.proofs.Advancing.{steps_honest, steps_idle}
use Rattle.search_theory.proofs.Calling.{opened_run, final_run, recited}

module _ {P : Type 0} (m : Meaning P) where
  -- a search that runs has steps left
  steps_left : (capacity : ℕ) (t : State P) → Honest m capacity t → t.verdict ≡ Running → t.steps < capacity * capacity
  steps_left capacity t honest runs =
      let p = says_that m capacity t honest Running runs in
      let budget = p.budget in
      let some = open_weighs t.nodes p.place p.node p.at p.is_open in
      let most : capacity * length t.nodes ≤ capacity * capacity = mul-le-mul_left capacity honest.room in
      omega arith

  -- what a verdict says holds
  says_so : (capacity : ℕ) (t : State P) → Honest m capacity t → Says m capacity t.verdict
  says_so capacity t honest = by t.verdict honest.says
    where
      by : (v : Verdict) → stepping.Says m capacity t.nodes t.steps v → Says m capacity v
      by Running says = tt
      by (Solved n) says =
          let way = says.reached in
          (record { moves = way.0; count = way.1; finish = way.2; least = says.least }, (let below = says.short in let room = honest.room in omega arith))
      by Unsolvable says = says
      by TableFull says = says

  pub promise : (M : ℕ) → Lawful m → m.game.count ≡ M → Promise m M
  promise M lawful counted places numbers calls s run t is =
      let o = opened_run m lawful places numbers calls s run t is in
      let honest = o.honest in
      record {
        says = says_so s.places t honest;
        recited = recited m s t is;
        counted = o.counted;
        spent = o.spent;
        reached = honest.known.reached;
        distinct = distinct_positions t.nodes honest.apart;
        room = honest.room;
        few = subst (λ n. length t.nodes ≤ 1 + n * t.steps) counted honest.few;
        ends = steps_left s.places t honest;
        idle = λ final budget answer last a.
            let same : a.first ≡ t = same_Some a.first t (sym a.from ∙ is) in
            steps_idle m s.places a.first answer.steps a.last a.steps (λ runs. final (ap (λ (x : State P). x.verdict) (sym same) ∙ runs));
        final = final_run m s t is;
        fixed = step_unique m s.places lawful t honest;
      }

  -- and so it does of the search as it stands after a call
  pub stands : (M : ℕ) → Lawful m → m.game.count ≡ M → (old new : Search P) (call : Call) → (AllCallsFor m old → Happens m old call new) → StandsAfter m M old call new
  stands M lawful counted old new call happens before =
      let run = then before.run (happens before) in
      record {
        all_calls = record { places = before.places; numbers = before.numbers; calls = call ∷ before.calls; run = run };
        latest = refl;
        right = promise M lawful counted before.places before.numbers (call ∷ before.calls) new run;
      }

  -- what is known of an opened search, and after steps that it takes within one call
  pub search_invariant_steps : Lawful m → (s : Search P) → AllCallsFor m s → (first : State P) → s.state ≡ Some first → (n : ℕ) (t : State P) → Steps m s.places first n t → SearchInvariant m s t
  search_invariant_steps lawful s all_calls first is n t steps =
      let o = opened_run m lawful all_calls.places all_calls.numbers all_calls.calls s all_calls.run first is in
      let honest = steps_honest m s.places lawful first n t steps o.honest in
      record {
        known = honest.known;
        few = o.few;
        room = honest.room;
        unended = steps_left s.places t honest;
        busy = λ runs shut. (let p = says_that m s.places t honest Running runs in true≢false (sym p.is_open ∙ shut p.place p.node p.at));
        solved_open = λ n solved. (says_that m s.places t honest (Solved n) solved).some_open;
        found = λ n solved. (says_that m s.places t honest (Solved n) solved).found;
      }

  pub search_invariant : Lawful m → (s : Search P) → AllCallsFor m s → (t : State P) → s.state ≡ Some t → SearchInvariant m s t
  search_invariant lawful s all_calls t is = search_invariant_steps lawful s all_calls t is 0 t none
