use Rattle.std.proofs.Common.{◌≡◌, ◌<◌, ◌-◌, suc, subst, arith, length}
use Rattle.search_theory.specs.Steps.{state}
use Rattle.search_theory.proofs.Promise.{search_invariant}
use Rattle.search.specs.Contents.{nodes_of, search_of}
use Rattle.search.specs.View.{contents}
use Rattle.search.proofs.Openings.{state_as}
use Rattle.search.proofs.Fronts.{found_first}
use Rattle.search.proofs.Reciting.{Reciting, reciting_begins, reciting_more}
use Rattle.search.proofs.search.Search.recite.Goals as goal

pub loop-left-init : goal.loop-left-init
unfolding nodes_of
loop-left-init g c =
    let m = g.Z.Puzzle.meaning c.args.puzzle.now in
    let v = c.self.inside in
    let h = c.self.invariant.fit in
    rw (← c.self.view_is) (record {
      within = omega arith;
      reciting = λ all_calls.
          let t = state (nodes_of (contents v)) v.verdict v.steps in
          let known = search_invariant m (g.met.Z.Puzzle.lawful c.args.puzzle.now) (search_of (contents v)) all_calls t (state_as (contents v) c.if-not-self.false) in
          let found = found_first m (length v.table.places.now) v.table.places.now v.open_list.entries v.index.keys v.links.numbers.now h.keyed (omega (arith, h.used, h.deep)) (omega (arith, h.used, h.linked))
          c.in-Solved.count c.unwrap_or-place.result c.first.result c.first.ensures c.unwrap_or-place.ensures (known.solved_open c.in-Solved.count c.in-Solved.is) (known.found c.in-Solved.count c.in-Solved.is) in
          reciting_begins m (nodes_of (contents v)) c.unwrap_or-place.result c.in-Solved.count c.args.moves.now found;
    })

pub loop-left-preserved : goal.loop-left-preserved
unfolding nodes_of
loop-left-preserved g c =
    let m = g.Z.Puzzle.meaning c.args.puzzle.now in
    let v = c.self.inside in
    let within = c.loop-left.invariant.within in
    let again : c.loop-left.left ≡ suc (c.loop-left.left - 1) = omega arith in
    let inside : c.loop-left.left - 1 < length c.args.moves.now = omega arith in
    let reciting = rw (← c.self.view_is) at c.loop-left.invariant.reciting in
    rw (← c.self.view_is) (record {
      within = omega arith;
      reciting = λ all_calls.
          let before = subst (λ k. Reciting m (nodes_of (contents v)) c.loop-left.place k c.in-Solved.count c.args.moves.now c.loop-left.moves) again (reciting all_calls) in
          reciting_more m v.table.places.now v.open_list.entries v.index.keys v.links.numbers.now c.loop-left.place (c.loop-left.left - 1) c.in-Solved.count c.args.moves.now c.loop-left.moves
          c.get-parent.result.0 c.get-parent.result.1 inside c.get-parent.ensures.parent c.get-parent.ensures.number before;
    })
