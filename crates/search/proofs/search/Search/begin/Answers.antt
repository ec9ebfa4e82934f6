use Rattle.std.proofs.Common.{◌≡◌, ◌≤◌, [], sym, ap, subst, refl, ◌∙◌, arith, length, ◌+◌, ◌<◌, cond, Some, None}
use Rattle.open_list.specs.OpenList as open_list
use Rattle.hash_index.specs.Index as index
use Rattle.search_theory.specs.Steps.{state, first_state}
use Rattle.search.specs.View.{contents}
use Rattle.search.specs.Contents.{nodes_of, nodes_from, numbers_of, search_of}
use Rattle.search.proofs.Openings.{search_as, may_open, open_list_fits, index_fits}
use Rattle.search.proofs.search.Search.begin.Goals as goal

pub returns-clause-opens : goal.returns-clause-opens
unfolding nodes_of
returns-clause-opens g c =
    let ps = c.self.inside.table.places.now in
    let h = c.self.invariant.fit in
    let sizes = h.whole (sym c.self.invariant.listed ∙ c.if-self-places.false) in
    let few = c.if-places-gt-MOST_PLACES.false in
    let fits = c.start.ensures.fits ∙ open_list_fits (length ps) c.self.inside.open_list.numbers few sizes.0 in
    let started = subst (λ b. open_list.Starts (length ps) c.self.inside.open_list b c.start.new.self) fits c.start.ensures.after in
    let index_fit = c.start-2.ensures.fits ∙ index_fits (length ps) c.self.inside.index.numbers few sizes.1 in
    let index_started = subst (λ b. index.Starts (length ps) c.self.inside.index b c.start-2.new.self) index_fit c.start-2.ensures.after in
    let some : 1 ≤ length ps = omega (arith, c.if-places-eq0.false) in
    let empty : nodes_from ps c.start.new.self.entries c.start-2.new.self.keys c.self.inside.links.numbers.now ≡ [] = ap (λ es. nodes_from ps es c.start-2.new.self.keys c.self.inside.links.numbers.now) started.0 in
    let room : 0 < c.start.new.self.capacity = omega (arith, started.1) in
    let begins = c.store_start.ensures.begins empty room refl in
    let numbers : length c.start.new.self.numbers + length c.start-2.new.self.numbers + length c.self.inside.links.numbers.now ≡ numbers_of (contents c.self.inside) = omega (arith, started.2, index_started.2) in
    rw (← c.self.view_is) (
      may_open (search_of (contents c.self.inside)) some few (sym c.self.invariant.listed ∙ c.if-self-places.false) (ap (λ b. cond b (Some (state (nodes_of (contents c.self.inside)) c.self.inside.verdict c.self.inside.steps)) None) c.if-self.false),
      search_as c.store_start.new.self (search_of (contents c.self.inside)) (first_state (g.Z.Puzzle.meaning c.args.puzzle.now) (length ps)) c.store_start.ensures.table (c.store_start.ensures.numbers ∙ numbers) c.store_start.ensures.opened begins,
    )
