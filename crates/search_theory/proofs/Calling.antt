-- What holds of a search after each list of calls. Assumes nothing.
use Rattle.std.proofs.Common.{◌≡◌, ℕ, ◌+◌, ◌≤◌, Bool, true, false, cond, nat_le, List, [], ◌∷◌, length, Some, None, Ok, Err, Option, Result, refl, sym, ap, subst, ◌∙◌, arith}
use Rattle.std.proofs.lemmas.Option.{same_Some, none-some}
use Rattle.std.proofs.lemmas.Bool.{leb-true, le-leb, and_parts}
use Rattle.refusals.specs.declared.Fault.{Fault}
use Rattle.puzzle.specs.Meaning.{Meaning, Lawful}
use Rattle.search_theory.specs.declared.Verdict.TheVariants.{Running, Solved}
use Rattle.search_theory.specs.declared.Advance.{Advance}
use Rattle.search_theory.specs.Steps.{State, first_state}
use Rattle.search_theory.specs.Calls.{Search, new_search, with_state, is_unopened, open_refusal, recite_refusal, AdvancesBy, Recites, RecitesWay, Call, opening, advance, asking, recital, Happens, Run, none, then}
use Rattle.search_theory.specs.Promise.{total_steps, total_budget}
use Rattle.search_theory.proofs.Invariants.{first_state_cases}
use Rattle.search_theory.proofs.Stepping.{Honest, first_state_honest}
use Rattle.search_theory.proofs.Advancing.{steps_counted, steps_running, steps_final, steps_honest}

-- a call is not refused where the test does not fail
passes : (b : Bool) (rest : Option Fault) (fault : Fault) → cond b rest (Some fault) ≡ None → (b ≡ true) × (rest ≡ None)
passes true rest fault e = (refl, e)
passes false rest fault e = absurd (none-some fault (sym e))

module _ {P : Type 0} where
  -- what opens
  record MayOpen (s : Search P) : Type 0 where
    some : 1 ≤ s.places
    few : s.places ≤ 1048576
    unused : s.state ≡ None

  may_open : (s : Search P) → open_refusal s ≡ None → MayOpen s
  may_open s e =
      let size = passes _ _ _ e in
      let list = passes _ _ _ size.1 in
      let new = passes (is_unopened s) None _ list.1 in
      let both = and_parts (nat_le 1 s.places) (nat_le s.places 1048576) size.0 in
      record { some = leb-true 1 s.places both.0; few = leb-true s.places 1048576 both.1; unused = by_state s.state new.0 }
    where
      by_state : (o : Option (State P)) → elim o [ Some t ↦ false | None ↦ true ] ≡ true → o ≡ None
      by_state (Some t) is = absurd (cc)
      by_state None is = refl

module _ {P : Type 0} (m : Meaning P) (lawful : Lawful m) where
  -- what holds of an opened search after so many steps answered and granted
  pub record Opened (answers grants : ℕ) (s : Search P) (t : State P) : Type 0 where
    pub honest : Honest m s.places t
    pub few : s.places ≤ 1048576
    pub counted : t.steps ≡ answers
    pub spent : t.verdict ≡ Running → t.steps ≡ grants

  record Kept (answers grants : ℕ) (s : Search P) : Type 0 where
    unused : s.state ≡ None → (answers ≡ 0) × (grants ≡ 0)
    opened : (t : State P) → s.state ≡ Some t → Opened answers grants s t

  kept_opening : (s : Search P) (answers grants : ℕ) → Kept answers grants s → open_refusal s ≡ None → Kept answers grants (with_state s (first_state m s.places))
  kept_opening s answers grants kept accepted = record {
    unused = λ e. absurd (none-some (first_state m s.places) (sym e));
    opened = λ t e. subst (λ z. Opened answers grants (with_state s (first_state m s.places)) z) (same_Some (first_state m s.places) t e) (record {
      honest = first_state_honest m s.places lawful may.some;
      few = may.few;
      counted = no_steps ∙ sym none_before.0;
      spent = λ runs. no_steps ∙ sym none_before.1;
    });
  }
    where
      may : MayOpen s
      may = may_open s accepted

      none_before : (answers ≡ 0) × (grants ≡ 0)
      none_before = kept.unused may.unused

      no_steps : (first_state m s.places).steps ≡ 0
      no_steps = first_state_cases m s.places (λ t. t.steps ≡ 0) (λ floor is. refl) (λ is. refl)

  kept_advance : (s : Search P) (answers grants budget : ℕ) (answer : Advance) (last : Search P) → Kept answers grants s → AdvancesBy m budget s answer last
      → Kept (answer.steps + answers) (budget + grants) last
  kept_advance s answers grants budget answer last kept a = subst (λ z. Kept (answer.steps + answers) (budget + grants) z) (sym a.to) (record {
    unused = λ e. absurd (none-some a.last (sym e));
    opened = λ t e. subst (λ z. Opened (answer.steps + answers) (budget + grants) (with_state s a.last) z) (same_Some a.last t e) (record {
      honest = steps_honest m s.places lawful a.first answer.steps a.last a.steps before.honest;
      few = before.few;
      counted = (let counted = before.counted in omega (arith, taken));
      spent = λ runs. (let spent = before.spent (steps_running m s.places a.first answer.steps a.last a.steps runs) in let all = a.enough runs in omega (arith, taken));
    });
  })
    where
      before : Opened answers grants s a.first
      before = kept.opened a.first a.from

      taken : a.last.steps ≡ a.first.steps + answer.steps
      taken = steps_counted m s.places a.first answer.steps a.last a.steps

  kept_call : (calls : List Call) (call : Call) (s last : Search P) → Kept (total_steps calls) (total_budget calls) s → Happens m s call last → Kept (total_steps (call ∷ calls)) (total_budget (call ∷ calls)) last
  kept_call calls (opening (Ok u)) s last kept h = subst (λ z. Kept (total_steps calls) (total_budget calls) z) (sym h.1) (kept_opening s (total_steps calls) (total_budget calls) kept h.0)
  kept_call calls (opening (Err e)) s last kept h = subst (λ z. Kept (total_steps calls) (total_budget calls) z) (sym h.1) kept
  kept_call calls (advance budget (Ok answer)) s last kept h = kept_advance s (total_steps calls) (total_budget calls) budget answer last kept h
  kept_call calls (advance budget (Err e)) s last kept h = subst (λ z. Kept (total_steps calls) (total_budget calls) z) (sym h.1) kept
  kept_call calls (asking answer) s last kept h = subst (λ z. Kept (total_steps calls) (total_budget calls) z) (sym h.1) kept
  kept_call calls (recital before answer after) s last kept h = subst (λ z. Kept (total_steps calls) (total_budget calls) z) (sym h.1) kept

  kept_run : (places numbers : ℕ) (calls : List Call) (s : Search P) → Run m (new_search places numbers) calls s → Kept (total_steps calls) (total_budget calls) s
  kept_run places numbers [] s none = record { unused = λ e. (refl, refl); opened = λ t e. absurd (none-some t e) }
  kept_run places numbers (call ∷ calls) s (then {mid = mid} before happens) = kept_call calls call mid s (kept_run places numbers calls mid before) happens

  -- what holds of the search that calls led to, once it is opened
  pub opened_run : (places numbers : ℕ) (calls : List Call) (s : Search P) → Run m (new_search places numbers) calls s → (t : State P) → s.state ≡ Some t → Opened (total_steps calls) (total_budget calls) s t
  opened_run places numbers calls s run = (kept_run places numbers calls s run).opened

-- a recital of a solved search is not refused where there is room
pub may_recite : {P : Type 0} (s : Search P) (t : State P) (n room : ℕ) → s.state ≡ Some t → t.verdict ≡ Solved n → n ≤ room → recite_refusal s room ≡ None
may_recite {P} s t n room opened solved enough = rw (opened, solved, le-leb n room enough) refl

module _ {P : Type 0} (m : Meaning P) (s : Search P) (t : State P) (is : s.state ≡ Some t) where
  -- after a final verdict no call changes the search
  module _ (final : t.verdict ≡ Running → ⊥) where
    final_advance : (budget : ℕ) (answer : Advance) (last : Search P) → AdvancesBy m budget s answer last → last ≡ s
    final_advance budget answer last a =
        let first : t ≡ a.first = same_Some t a.first (sym is ∙ a.from) in
        let stays : a.last ≡ a.first = steps_final m s.places a.first answer.steps a.last a.steps (subst (λ (z : State P). z.verdict ≡ Running → ⊥) first final) in
        a.to ∙ (ap (λ z. with_state s z) stays ∙ ap (λ (o : Option (State P)). record s { state = o }) (sym a.from))

    final_call : (call : Call) (last : Search P) → Happens m s call last → last ≡ s
    final_call (opening (Ok u)) last h = absurd (none-some t (sym (may_open s h.0).unused ∙ is))
    final_call (opening (Err e)) last h = h.1
    final_call (advance budget (Ok answer)) last h = final_advance budget answer last h
    final_call (advance budget (Err e)) last h = h.1
    final_call (asking answer) last h = h.1
    final_call (recital before answer after) last h = h.1

    pub final_run : (later : List Call) (last : Search P) → Run m s later last → last ≡ s
    final_run [] last none = refl
    final_run (call ∷ calls) last (then {mid = mid} before happens) = final_call call last (subst (λ z. Happens m z call last) (final_run calls mid before) happens)

  -- every recital of a solved search that has room gives its moves
  module _ (n : ℕ) (solved : t.verdict ≡ Solved n) where
    recital_solved : (k : ℕ) (z : State P) → s.state ≡ Some z → z.verdict ≡ Solved k → k ≡ n
    recital_solved k z at other = let same : t ≡ z = same_Some t z (sym is ∙ at) in let v : t.verdict ≡ z.verdict = ap (λ (x : State P). x.verdict) same in cc

    pub recited : (before after : List ℕ) (answer : Result ℕ Fault) → Recites m s before answer after → n ≤ length before → (answer ≡ Ok n) × RecitesWay m n before after
    recited before after (Ok k) r enough = let same = recital_solved k r.1.0 r.1.1 r.1.2 in (ap Ok same, subst (λ z. RecitesWay m z before after) same r.2)
    recited before after (Err e) r enough = absurd (none-some e (sym (may_recite s t n (length before) is solved enough) ∙ r.0))
