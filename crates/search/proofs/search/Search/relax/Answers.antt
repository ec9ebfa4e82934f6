use Rattle.std.proofs.Common.{sym, ap, subst, refl, ◌∙◌, arith, slice_get, set}
use Rattle.open_list.specs.Entries.{nearer_entry}
use Rattle.open_list.specs.OpenList.{Reaches}
use Rattle.search.specs.Contents.{nodes_of, nodes_from}
use Rattle.search.proofs.Relaxing.{relaxed_then, relaxed_else}
use Rattle.search.proofs.search.Search.relax.Goals as goal

pub returns-then-reach-clause-after : goal.returns-then-reach-clause-after
unfolding nodes_of
returns-then-reach-clause-after g c =
    let ps = c.self.inside.table.places.now in
    let old = c.self.inside.open_list in
    let ks = c.self.inside.index.keys in
    let ls = c.self.inside.links.numbers.now in
    let place = c.args.place in
    let reach = c.args.reach in
    let h = c.self.invariant.fit in
    let after = subst (λ b. Reaches place reach.depth old b c.reach.new.self) c.if-reach.true c.reach.ensures.after in
    let nearer = sym c.reach.ensures.nearer ∙ c.if-reach.true in
    rw (← c.self.view_is) (
    ap (λ es. nodes_from ps es ks c.put.new.self.numbers.now) after.2.entries
    ∙ ap (λ l. nodes_from ps (set old.entries place (nearer_entry after.0 reach.depth)) ks l) c.put.ensures
    ∙ relaxed_then ps old.entries ks ls h.keyed (omega arith) (omega arith) place reach.depth reach.parent reach.number after.0 c.requires.number after.1 nearer
    )

pub returns-else-reach-clause-after : goal.returns-else-reach-clause-after
unfolding nodes_of
returns-else-reach-clause-after g c =
    let ps = c.self.inside.table.places.now in
    let old = c.self.inside.open_list in
    let ks = c.self.inside.index.keys in
    let ls = c.self.inside.links.numbers.now in
    let place = c.args.place in
    let reach = c.args.reach in
    let h = c.self.invariant.fit in
    let after = subst (λ b. Reaches place reach.depth old b c.reach.new.self) c.if-reach.false c.reach.ensures.after in
    let further = sym c.reach.ensures.nearer ∙ c.if-reach.false in
    rw (← c.self.view_is) (
    ap (λ o. nodes_from ps (o.entries) ks ls) after
    ∙ relaxed_else ps old.entries ks ls h.keyed (omega arith) (omega arith) place reach.depth reach.parent reach.number (slice_get old.entries place) (slice_get (nodes_from ps old.entries ks ls) place) refl refl further
    )
