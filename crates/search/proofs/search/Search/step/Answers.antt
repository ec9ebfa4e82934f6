use Rattle.std.proofs.Common.{◌≡◌, ◌<◌, ◌+◌, ℕ, Bool, true, false, not, cond, Option, sym, ap, subst, refl, ◌∙◌, arith, length, length-set}
use Rattle.std.proofs.lemmas.Option.{slice_get_within}
use Rattle.std.specs.Option.{unwrap_or, option_map, is_some}
use Rattle.puzzle.specs.Game.{Reached}
use Rattle.open_list.specs.Entries.{IsFirst}
use Rattle.search_theory.specs.Steps.{state, finishes, GoesOn}
use Rattle.search_theory.specs.declared.Verdict.{Verdict}
use Rattle.search_theory.specs.declared.Verdict.TheVariants.{Running, Solved, Unsolvable, TableFull}
use Rattle.search_theory.proofs.Invariants.{known_closed}
use Rattle.search_theory.specs.inside.Invariants.{NodeInvariant}
use Rattle.search.specs.Contents.{Contents, nodes_of, nodes_from}
use Rattle.search.specs.inside.Parts.{PlaysAllOrOverflows}
use Rattle.search.proofs.Nodes.{length-nodes}
use Rattle.search.proofs.Fronts.{none_open_as, front, closed_front, goes_by}
use Rattle.search.proofs.Turns.{step_result, step_stuck, step_went, at_place}
use Rattle.search.proofs.search.Search.step.Goals as goal
use Rattle.search.proofs.search.Search.step.Goals.{then-not-expand, else-not-expand+then-is_none, else-not-expand+else-is_none}

pub returns-in_default-clause-steps : goal.returns-in_default-clause-steps
unfolding nodes_of
returns-in_default-clause-steps g c = rw (← c.self.view_is) (λ ready. absurd (ready.busy (none_open_as _ _ _ _ (c.in_default.ensures))))

pub get-requires : goal.get-requires
get-requires g c =
    let first = c.in-Some.ensures in
    let h = c.self.invariant.fit in
    let inside : c.in-Some.place < length c.self.inside.open_list.entries = slice_get_within _ _ _ first.there in
    omega (arith, h.used, h.deep)

pub returns-then-is_goal-clause-steps : goal.returns-then-is_goal-clause-steps
unfolding nodes_of
returns-then-is_goal-clause-steps g c =
    let m = g.Z.Puzzle.meaning c.args.puzzle.now in
    let ps = c.self.inside.table.places.now in
    let es = c.self.inside.open_list.entries in
    let ks = c.self.inside.index.keys in
    let ls = c.self.inside.links.numbers.now in
    let place = c.in-Some.place in
    let h = c.self.invariant.fit in
    let first = c.in-Some.ensures in
    let f = front ps es ks ls h.keyed (omega (arith, h.used, h.deep)) (omega (arith, h.used, h.linked)) place first c.get.result c.get.ensures in
    let depth : c.unwrap_or.result ≡ f.node.depth = c.unwrap_or.ensures ∙ ap (λ o. unwrap_or o 0) (c.depth.ensures ∙ ap (option_map (λ e. e.depth)) first.there) ∙ sym f.depth_is in
    rw (← c.self.view_is) (λ ready.
    let known = ready.known in
    let runs = ready.runs in
    let bound = ready.countable in
    let reached = subst (Reached m.game) f.position_is (known.reached place f.node f.at) in
    let finished = ap m.game.finished f.position_is ∙ sym (c.is_goal.ensures reached) ∙ c.if-is_goal.true in
    let steps : c.saturating_add-self-inside.result ≡ c.self.inside.steps + 1 = omega (arith, c.saturating_add-self-inside.ensures) in
    finishes place f.node runs f.taken finished (ap (λ d. state (nodes_from ps es ks ls) (Solved d) c.saturating_add-self-inside.result) depth ∙ ap (λ k. state (nodes_from ps es ks ls) (Solved f.node.depth) k) steps))

pub expand-requires-clause-place : goal.expand-requires-clause-place
expand-requires-clause-place g c =
    let first = c.in-Some.ensures in
    let after = closed_front c.self.inside.open_list c.close_first.new.self c.in-Some.place c.close_first.result first c.close_first.ensures.first c.close_first.ensures.after in
    let inside : c.in-Some.place < length c.self.inside.open_list.entries = slice_get_within _ _ _ first.there in
    rw (after.2.entries, length-set) inside

pub expand-requires-clause-few : goal.expand-requires-clause-few
expand-requires-clause-few g c =
    let first = c.in-Some.ensures in
    let h = c.self.invariant.fit in
    let inside : c.in-Some.place < length c.self.inside.open_list.entries = slice_get_within _ _ _ first.there in
    omega (arith, h.used, h.few)

pub returns-clause-steps : goal.returns-clause-steps
unfolding nodes_of
returns-clause-steps g c =
    let m = g.Z.Puzzle.meaning c.args.puzzle.now in
    let ps = c.self.inside.table.places.now in
    let es = c.self.inside.open_list.entries in
    let ks = c.self.inside.index.keys in
    let ls = c.self.inside.links.numbers.now in
    let place = c.in-Some.place in
    let h = c.self.invariant.fit in
    let first = c.in-Some.ensures in
    let f = front ps es ks ls h.keyed (omega (arith, h.used, h.deep)) (omega (arith, h.used, h.linked)) place first c.get.result c.get.ensures in
    let depth : c.unwrap_or.result ≡ f.node.depth = c.unwrap_or.ensures ∙ ap (λ o. unwrap_or o 0) (c.depth.ensures ∙ ap (option_map (λ e. e.depth)) first.there) ∙ sym f.depth_is in
    let after = closed_front c.self.inside.open_list c.close_first.new.self place c.close_first.result first c.close_first.ensures.first c.close_first.ensures.after in
    let capacity : c.close_first.new.self.capacity ≡ c.self.inside.open_list.capacity = after.2.capacity in
    let shut = ap (λ x. nodes_from ps x ks ls) after.2.entries ∙ f.closing after.0 after.1 in
    let size = length-nodes ps es ks ls h.keyed (omega (arith, h.used, h.deep)) (omega (arith, h.used, h.linked)) in
    rw (← c.self.view_is) (λ ready.
    let known = ready.known in
    let runs = ready.runs in
    let bound = ready.countable in
    let reached = subst (Reached m.game) f.position_is (known.reached place f.node f.at) in
    let unfinished = ap m.game.finished f.position_is ∙ sym (c.is_goal.ensures reached) ∙ c.if-is_goal.false in
    let steps : c.saturating_add-self-inside.result ≡ c.self.inside.steps + 1 = omega (arith, c.saturating_add-self-inside.ensures) in
    let shallow : c.unwrap_or.result < 1048576 = omega (arith, depth, known.depth place f.node f.at, size, h.used, h.few) in
    let mid : Contents g.row.P.Denot = record { table = ps; open_list = c.close_first.new.self; index = c.self.inside.index; links = ls; opened = c.self.inside.opened; verdict = c.self.inside.verdict; steps = c.saturating_add-self-inside.result } in
    let new = c.expand.new.self in
    let old = state (nodes_from ps es ks ls) c.self.inside.verdict c.self.inside.steps in
    let at = at_place m (length ps) (nodes_from ps es ks ls) c.self.inside.verdict c.self.inside.steps runs place f.node f.taken unfinished mid new shut in
    let known_mid = subst (NodeInvariant m) (sym shut) (known_closed m (nodes_from ps es ks ls) place f.node known f.at) in
    let moves = subst (λ n. PlaysAllOrOverflows m n place f.node mid c.expand.result new) (capacity ∙ h.ready ready.opened) (c.expand.ensures.moves f.node at f.position_is (sym depth) shallow known_mid) in
    let steps_2 : c.self-2.inside.steps ≡ c.self.inside.steps + 1 = ap (λ x. x.steps) c.self-2.view_is ∙ c.expand.ensures.frame.steps ∙ steps in
    let went = step_went m (length ps) (nodes_from ps es ks ls) c.self.inside.verdict c.self.inside.steps runs place f.node f.taken unfinished mid new shut in
    let h2 = c.self-2.invariant.fit in
    let goes = λ (o : Option ℕ) (none : Bool) (verdict : Verdict) (first : IsFirst c.self-2.inside.open_list.entries o) (test : is_some o ≡ not none) (is : verdict ≡ cond none Unsolvable Running).
    subst (λ ns. GoesOn m (length ps) ns verdict) (ap nodes_of c.self-2.view_is)
    (goes_by m (length ps) c.self-2.inside.table.places.now c.self-2.inside.open_list.entries c.self-2.inside.index.keys c.self-2.inside.links.numbers.now h2.keyed (omega (arith, h2.used, h2.deep)) (omega (arith, h2.used, h2.linked)) o none verdict first test is) in
    let told = step_result m (length ps) old (nodes_from c.self-2.inside.table.places.now c.self-2.inside.open_list.entries c.self-2.inside.index.keys c.self-2.inside.links.numbers.now) (nodes_of new) c.if-not-expand.self in
    elim c.if-not-expand.branch [
      | then-not-expand w ↦ told TableFull c.self-2.inside.steps (c.self.inside.steps + 1) (ap nodes_of c.self-2.view_is) w.self-is steps_2
          (step_stuck m (length ps) (nodes_from ps es ks ls) c.self.inside.verdict c.self.inside.steps runs place f.node f.taken unfinished mid new shut (subst (λ b. PlaysAllOrOverflows m (length ps) place f.node mid b new) w.if-not-expand.true moves))
      | else-not-expand+then-is_none w ↦ told Unsolvable c.self-2.inside.steps (c.self.inside.steps + 1) (ap nodes_of c.self-2.view_is) w.self-is steps_2
          (went (subst (λ b. PlaysAllOrOverflows m (length ps) place f.node mid b new) w.if-not-expand.false moves) Unsolvable
          (goes w.first-else-not-expand.result true Unsolvable w.first-else-not-expand.ensures (w.is_none.ensures ∙ ap not w.if-is_none.true) refl))
      | else-not-expand+else-is_none w ↦ told Running c.self-2.inside.steps (c.self.inside.steps + 1) (ap nodes_of c.self-2.view_is) w.self-is steps_2
          (went (subst (λ b. PlaysAllOrOverflows m (length ps) place f.node mid b new) w.if-not-expand.false moves) Running
          (goes w.first-else-not-expand.result false Running w.first-else-not-expand.ensures (w.is_none.ensures ∙ ap not w.if-is_none.false) refl))
    ])
