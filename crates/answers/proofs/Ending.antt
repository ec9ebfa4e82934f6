-- A search that is opened and advanced once, to its end. Assumes nothing.
use Rattle.std.proofs.Common.{◌≡◌, refl, sym, ap, subst, ◌∙◌, arith, ℕ, ◌*◌, ◌<◌, ◌≤◌, List, [], ◌∷◌, Some, None, Ok, Err, Result}
use Rattle.std.specs.Result.{IsOk}
use Rattle.std.proofs.lemmas.Option.{same_Some, none-some}
use Rattle.refusals.specs.declared.Fault.{Fault}
use Rattle.puzzle.specs.Meaning.{Meaning, Lawful}
use Rattle.search_theory.specs.declared.Verdict.{Verdict}
use Rattle.search_theory.specs.declared.Verdict.TheVariants.{Running, Solved, Unsolvable, TableFull}
use Rattle.search_theory.specs.declared.Advance.{Advance}
use Rattle.search_theory.specs.Steps.{State, Steps, first_state}
use Rattle.search_theory.specs.Calls.{Search, new_search, refusal_in, recite_refusal, Opens, Advances, AdvancesBy, RecitesWay, Recites, opening, advance, AllCallsFor}
use Rattle.search_theory.specs.Promise.{Says, Right, Stands, StandsAfter}
use Rattle.search_theory.proofs.Calling.{may_recite}
use Rattle.search_theory.proofs.Ending.{ends_unique}
use Rattle.answers.specs.Answers.{places}
use Rattle.answers.specs.inside.Solving.{Leaves, Finds}

-- no refusal: an answer
pub unrefused : {A : Type 0} (r : Result A Fault) → refusal_in r ≡ None → IsOk r
unrefused {A} (Ok a) e = refl
unrefused {A} (Err f) e = absurd (none-some f (sym e))

-- a search of a lawful puzzle was opened, and advanced by a budget that is enough for every search
pub record Ended {P : Type 0} (m : Meaning P) (M : ℕ) (first opened last : Search P) (u : Unit {0}) (answer : Advance) (budget : ℕ) : Type 0 where
  pub lawful : Lawful m
  pub fresh : first ≡ new_search places (8 * places)
  pub opens : Opens m first (Ok u) opened
  pub advances : AdvancesBy m budget opened answer last
  pub enough : places * places ≤ budget
  pub stands : Stands m M (advance budget (Ok answer) ∷ opening (Ok u) ∷ []) last

module _ {P : Type 0} {m : Meaning P} {M : ℕ} {first opened last : Search P} {u : Unit {0}} {answer : Advance} {budget : ℕ} (e : Ended m M first opened last u answer budget) where
  abbrev state : State P
  state = e.advances.last

  state_is : last.state ≡ Some state
  state_is = ap (λ (s : Search P). s.state) e.advances.to

  opened_places : opened.places ≡ places
  opened_places = ap (λ (s : Search P). s.places) e.opens.1 ∙ ap (λ (s : Search P). s.places) e.fresh

  places_are : last.places ≡ places
  places_are = ap (λ (s : Search P). s.places) e.advances.to ∙ opened_places

  right : Right m M (advance budget (Ok answer) ∷ opening (Ok u) ∷ []) last state
  right = e.stands.right state state_is

  verdict_is : (v : Verdict) → answer.verdict ≡ v → state.verdict ≡ v
  verdict_is v is = sym e.advances.verdict ∙ is

  final : state.verdict ≡ Running → ⊥
  final runs =
      let steps : state.steps ≡ answer.steps = (let counted = right.counted in omega arith) in
      let all = e.advances.enough runs in
      let few : state.steps < places * places = subst (λ n. state.steps < n * n) places_are (right.ends runs) in
      let enough = e.enough in
      omega arith

  steps : Steps m places (first_state m places) answer.steps state
  steps =
      let started : e.advances.first ≡ first_state m places =
      same_Some e.advances.first (first_state m places)
      (sym e.advances.from ∙ ap (λ (s : Search P). s.state) e.opens.1 ∙ ap (λ (s : Search P). Some (first_state m s.places)) e.fresh) in
      subst (λ n. Steps m n (first_state m places) answer.steps state) opened_places
      (subst (λ t. Steps m opened.places t answer.steps state) started e.advances.steps)

  says : (v : Verdict) → answer.verdict ≡ v → Says m places v
  says v is = subst (λ n. Says m n v) places_are (subst (Says m last.places) (verdict_is v is) right.says)

  -- a list of as many numbers as places has room for the moves
  pub recited : (n room : ℕ) → answer.verdict ≡ Solved n → places ≤ room → recite_refusal last room ≡ None
  recited n room is enough =
      let few = (says (Solved n) is).1 in
      may_recite last state n room state_is (verdict_is (Solved n) is) (omega arith)

  -- and what is recited are as many moves as the verdict says
  pub recites : (n k : ℕ) (before after : List ℕ) → answer.verdict ≡ Solved n → Recites m last before (Ok k) after → RecitesWay m n before after
  recites n k before after is recital =
      let t = recital.1 in
      let solved : state.verdict ≡ Solved k = ap (λ (x : State P). x.verdict) (same_Some state t.0 (sym state_is ∙ t.1)) ∙ t.2 in
      let said : state.verdict ≡ Solved n = verdict_is (Solved n) is in
      let same : k ≡ n = cc in
      subst (λ i. RecitesWay m i before after) same recital.2

  leaves : (v : Verdict) → answer.verdict ≡ v → (before after : List ℕ) → ((n : ℕ) → answer.verdict ≡ Solved n → RecitesWay m n before after) → Leaves m v before after
  leaves Running is before after way = final (verdict_is Running is)
  leaves (Solved n) is before after way = way n is
  leaves Unsolvable is before after way = tt
  leaves TableFull is before after way = tt

  pub finds : (before after : List ℕ) → ((n : ℕ) → answer.verdict ≡ Solved n → RecitesWay m n before after) → Finds m answer.verdict before after
  finds before after way = record {
    last = state;
    ends = record { count = answer.steps; steps = steps; final = final };
    only = λ other ends. ends_unique m places e.lawful (omega arith) ends.count answer.steps other state ends.steps ends.final steps final;
    verdict_is = sym e.advances.verdict;
    means = says answer.verdict refl;
    leaves = leaves answer.verdict refl before after way;
  }

-- the calls as their contracts tell them
pub ended : {P : Type 0} (m : Meaning P) (M : ℕ) (lawful : Lawful m) {first : Search P} (opened last : Search P) {r : Result (Unit {0}) Fault} {u : Unit {0}} {q : Result Advance Fault} {answer : Advance} (budget : ℕ)
    → first ≡ new_search places (8 * places) → ((all_calls : AllCallsFor m first) × (all_calls.calls ≡ [])) → r ≡ Ok u → Opens m first r opened → StandsAfter m M first (opening r) opened
    → q ≡ Ok answer → (AllCallsFor m opened → Advances m budget opened q last) → StandsAfter m M opened (advance budget q) last → places * places ≤ budget → Ended m M first opened last u answer budget
ended m M lawful {first = first} opened last {r = r} {u = u} {q = q} {answer = answer} budget fresh uncalled r_is opens opened_stands q_is advances advanced_stands enough =
    let before = opened_stands uncalled.0 in
    let calls = before.latest ∙ ap (λ x. opening x ∷ uncalled.0.calls) r_is ∙ ap (λ cs. opening (Ok u) ∷ cs) uncalled.1 in
    let all = ap (λ x. advance budget x ∷ before.all_calls.calls) q_is ∙ ap (λ cs. advance budget (Ok answer) ∷ cs) calls in
    record {
      lawful = lawful;
      fresh = fresh;
      opens = subst (λ x. Opens m first x opened) r_is opens;
      advances = subst (λ x. Advances m budget opened x last) q_is (advances before.all_calls);
      enough = enough;
      stands = subst (λ cs. Stands m M cs last) all (advanced_stands before.all_calls);
    }

pub new_as : {P : Type 0} (s : Search P) (a b c d : ℕ) → s ≡ new_search a b → a ≡ c → b ≡ d → s ≡ new_search c d
new_as {P} s a b c d is same equal = is ∙ ap (λ n. new_search n b) same ∙ ap (λ n. new_search c n) equal
