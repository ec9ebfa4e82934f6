use Rattle.std.proofs.Common.{[], sym, ap, subst, refl, ◌∙◌, length}
use Rattle.puzzle.specs.Game.{Reached, here}
use Rattle.search_theory.specs.Steps.{state}
use Rattle.search_theory.specs.declared.Verdict.TheVariants.{Running, Unsolvable}
use Rattle.search.specs.Contents.{Contents, nodes_of}
use Rattle.search.proofs.Openings.{dead_first_state, alive_first_state}
use Rattle.search.proofs.search.Search.store_start.Goals as goal

pub returns-in_default-clause-begins : goal.returns-in_default-clause-begins
unfolding nodes_of
returns-in_default-clause-begins g c =
    let m = g.Z.Puzzle.meaning c.args.puzzle.now in
    let reached = subst (Reached m.game) (sym c.start-start.ensures) ([], here) in
    let dead = ap m.lower_bound (sym c.start-start.ensures) ∙ sym (c.lower_bound.ensures reached) ∙ c.in_default.is in
    rw (← c.self.view_is) (λ empty some zero.
    ap (λ ns. state ns Unsolvable c.self.inside.steps) empty ∙ ap (λ k. state [] Unsolvable k) zero ∙ sym (dead_first_state m (length c.self.inside.table.places.now) dead))

pub returns-clause-begins : goal.returns-clause-begins
unfolding nodes_of
returns-clause-begins g c =
    let m = g.Z.Puzzle.meaning c.args.puzzle.now in
    let reached = subst (Reached m.game) (sym c.start-start.ensures) ([], here) in
    let v = c.self.inside in
    let old : Contents g.row.P.Denot = record { table = v.table.places.now; open_list = v.open_list; index = v.index; links = v.links.numbers.now; opened = v.opened; verdict = Running; steps = v.steps } in
    let alive = ap m.lower_bound (sym c.start-start.ensures) ∙ sym (c.lower_bound.ensures reached) ∙ c.in-Some.is in
    rw (← c.self.view_is) (λ empty some zero.
    alive_first_state m (length c.self.inside.table.places.now) old c.store.new.self c.store.result c.start-start.result c.key.result c.in-Some.floor empty some zero refl c.store.ensures.room c.store.ensures.after c.start-start.ensures (c.key.ensures reached) alive)
