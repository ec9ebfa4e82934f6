use Rattle.std.proofs.Common.{sym, ap, refl, ◌∙◌, arith}
use Rattle.search_theory.specs.Steps.{state}
use Rattle.search.specs.Contents.{nodes_of, nodes_from}
use Rattle.search.proofs.Nodes.{length-nodes}
use Rattle.search.proofs.search.Search.verdict.Goals as goal

pub returns : goal.returns
unfolding nodes_of
returns g c =
    let h = c.self.invariant.fit in
    let v = c.self.inside in
    let size = length-nodes v.table.places.now v.open_list.entries v.index.keys v.links.numbers.now h.keyed (omega (arith, h.used, h.deep)) (omega (arith, h.used, h.linked)) in
    rw (← c.self.view_is) (
      state (nodes_from v.table.places.now v.open_list.entries v.index.keys v.links.numbers.now) v.verdict v.steps,
      rw c.if-not-self.false refl,
      ap (λ n. record { verdict = v.verdict; steps = v.steps; places = n }) (c.len.ensures ∙ sym size),
    )
