use Rattle.std.proofs.Common.{◌≡◌, true, false, Some, None, sym, ap, subst, refl, ◌∙◌, arith, add-one, length}
use Rattle.std.proofs.lemmas.Bool.{true≢false}
use Rattle.search_theory.specs.Steps.{State, state, Step, none, next}
use Rattle.search_theory.specs.declared.Verdict.TheVariants.{Running}
use Rattle.search_theory.proofs.Promise.{search_invariant_steps}
use Rattle.search.specs.Contents.{Contents, nodes_of, state_of, search_of}
use Rattle.std.proofs.lemmas.Option.{same_Some}
use Rattle.search.proofs.Openings.{state_as, search_as}
use Rattle.search.proofs.Advancing.{few_steps, may_advance}
use Rattle.search.proofs.search.Search.take_steps.Goals as goal
use Rattle.search.proofs.search.Search.take_steps.Goals.{then-loop-steps-test+else-is_running, else-loop-steps-test}

pub loop-steps-init : goal.loop-steps-init
loop-steps-init g c = record { opened = rw (← c.self.view_is) c.if-not-self.false; table = refl; numbers = refl; within = omega arith; idle = λ final. (refl, refl); taken = λ all_calls. none }

pub loop-steps-preserved : goal.loop-steps-preserved
loop-steps-preserved g c = record {
  opened = c.step.ensures.opened ∙ c.loop-steps.invariant.opened;
  table = c.step.ensures.table ∙ c.loop-steps.invariant.table;
  numbers = c.step.ensures.numbers ∙ c.loop-steps.invariant.numbers;
  within = omega arith;
  idle = λ final. absurd (final (sym (ap (λ (x : Contents g.row.P.Denot). x.verdict) (c.loop-steps.invariant.idle final).0) ∙ c.if-is_running.ensures.0 refl));
  taken = λ all_calls.
      let m = g.Z.Puzzle.meaning c.args.puzzle.now in
      let first = c.args.self.now in
      let mid = c.loop-steps.self in
      let new = c.step.new.self in
      let opened : first.opened ≡ true = rw (← c.self.view_is) c.if-not-self.false in
      let before = c.loop-steps.invariant.taken all_calls in
      let search_invariant = search_invariant_steps m (g.met.Z.Puzzle.lawful c.args.puzzle.now) (search_of first) all_calls (state (nodes_of first) first.verdict first.steps) (state_as first opened) c.loop-steps.steps (state (nodes_of mid) mid.verdict mid.steps) before in
      let runs : mid.verdict ≡ Running = c.if-is_running.ensures.0 refl in
      let step = c.step.ensures.steps (record { known = search_invariant.known; opened = c.loop-steps.invariant.opened; runs = runs; countable = few_steps (length first.table) mid.steps search_invariant.few (search_invariant.unended runs); busy = search_invariant.busy runs }) in
      rw add-one (next before (subst (λ n. Step m n (state (nodes_of mid) mid.verdict mid.steps) (state (nodes_of new) new.verdict new.steps)) c.loop-steps.invariant.table step));
}

pub returns-clause-advances : goal.returns-clause-advances
returns-clause-advances g c = λ all_calls.
    let first = c.args.self.now in
    let last = c.loop-steps.self in
    let h = c.loop-steps.invariant in
    let opened : first.opened ≡ true = rw (← c.self.view_is) c.if-not-self.false in
    let before = state (nodes_of first) first.verdict first.steps in
    let after = state (nodes_of last) last.verdict last.steps in
    record {
      granted = may_advance (search_of first) before c.args.budget (state_as first opened) (omega arith);
      first = before;
      last = after;
      from = state_as first opened;
      to = search_as last (search_of first) after h.table h.numbers h.opened refl;
      steps = h.taken all_calls;
      within = h.within;
      enough = λ runs. elim c.loop-steps-test.branch [
        | then-loop-steps-test+else-is_running w ↦ absurd (true≢false (sym (w.is_running.ensures.1 runs) ∙ w.if-is_running.false))
        | else-loop-steps-test w ↦ (let done = w.loop-steps-test.false in let within = h.within in omega arith)
      ];
      verdict = ap (λ x. x.verdict) c.self-2.view_is;
    }

pub returns-clause-always : goal.returns-clause-always
returns-clause-always g c =
    let first = c.args.self.now in
    let last = c.loop-steps.self in
    let h = c.loop-steps.invariant in
    let opened : first.opened ≡ true = rw (← c.self.view_is) c.if-not-self.false in
    record {
      places = h.table;
      numbers = h.numbers;
      opened = ap (λ o. elim o [ Some t ↦ false | None ↦ true ]) (state_as last h.opened);
      within = h.within;
      final = λ t is final.
          let same : state_of first ≡ t = same_Some (state_of first) t (sym (state_as first opened) ∙ is) in
          let idle = h.idle (λ runs. final (ap (λ (x : State g.row.P.Denot). x.verdict) (sym same) ∙ runs)) in
          (ap search_of idle.0, idle.1);
    }
