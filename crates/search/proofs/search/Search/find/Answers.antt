use Rattle.std.proofs.Common.{◌<◌, arith, length}
use Rattle.std.proofs.lemmas.Option.{slice_get_within}
use Rattle.search.specs.Contents.{nodes_of}
use Rattle.search.proofs.Finding.{key_at, last_has_key, earlier_last, last_fewer, left_at, left_none, left_first, left_next, holds_it, holds_other}
use Rattle.search.proofs.Relaxing.{there}
use Rattle.search.proofs.search.Search.find.Goals as goal

pub loop-candidate-init : goal.loop-candidate-init
unfolding nodes_of
loop-candidate-init g c = rw (← c.self.view_is) (record {
  keyed = last_has_key _ _ _ c.last-candidate.result c.last-candidate.ensures;
  left = λ known reached key. left_first (g.Z.Puzzle.meaning c.args.puzzle.now) _ _ _ _ _ known c.args.key key c.last-candidate.result c.last-candidate.ensures;
})

pub holds-requires : goal.holds-requires
holds-requires g c =
    let at = key_at _ _ _ c.in-Some.place (rw (← c.self.view_is) at c.loop-candidate.invariant.keyed) c.in-Some.is in
    let inside : c.in-Some.place < length c.self.inside.index.keys = slice_get_within _ _ _ at in
    omega (arith, c.self.invariant.fit.keyed, c.self.invariant.fit.used, c.self.invariant.fit.deep)

pub returns-then-holds-clause-inside : goal.returns-then-holds-clause-inside
returns-then-holds-clause-inside g c =
    let at = key_at _ _ _ c.in-Some.place (rw (← c.self.view_is) at c.loop-candidate.invariant.keyed) c.in-Some.is in
    let inside : c.in-Some.place < length c.self.inside.index.keys = slice_get_within _ _ _ at in
    let within : c.in-Some.place < length c.self.inside.open_list.entries = omega (arith, c.self.invariant.fit.keyed) in
    rw (← c.self.view_is) within

pub returns-then-holds-clause-finds : goal.returns-then-holds-clause-finds
unfolding nodes_of
returns-then-holds-clause-finds g c =
    let m = g.Z.Puzzle.meaning c.args.puzzle.now in
    let h = c.self.invariant.fit in
    let at = key_at _ _ _ c.in-Some.place (rw (← c.self.view_is) at c.loop-candidate.invariant.keyed) c.in-Some.is in
    let inside : c.in-Some.place < length c.self.inside.index.keys = slice_get_within _ _ _ at in
    let within : c.in-Some.place < length c.self.inside.open_list.entries = omega (arith, h.keyed) in
    rw (← c.self.view_is) (λ known reached key.
    let found = there c.self.inside.table.places.now c.self.inside.open_list.entries c.self.inside.index.keys c.self.inside.links.numbers.now h.keyed (omega arith) (omega arith) c.in-Some.place within in
    (found.0, found.1, holds_it m _ _ _ _ _ (g.met.Z.Puzzle.lawful c.args.puzzle.now) known reached c.in-Some.place c.holds.result c.holds.ensures c.if-holds.true found.0 found.1))

pub loop-candidate-smaller : goal.loop-candidate-smaller
loop-candidate-smaller g c =
    let at = key_at _ _ _ c.in-Some.place (rw (← c.self.view_is) at c.loop-candidate.invariant.keyed) c.in-Some.is in
    let last = earlier_last _ c.in-Some.place c.args.key c.earlier-candidate.result at c.earlier-candidate.ensures in
    rw c.in-Some.is (last_fewer _ _ _ c.earlier-candidate.result last)

pub loop-candidate-preserved : goal.loop-candidate-preserved
unfolding nodes_of
loop-candidate-preserved g c =
    let m = g.Z.Puzzle.meaning c.args.puzzle.now in
    let at = key_at _ _ _ c.in-Some.place (rw (← c.self.view_is) at c.loop-candidate.invariant.keyed) c.in-Some.is in
    let last = earlier_last _ c.in-Some.place c.args.key c.earlier-candidate.result at c.earlier-candidate.ensures in
    let left = rw (← c.self.view_is) at c.loop-candidate.invariant.left in
    rw (← c.self.view_is) (record {
      keyed = last_has_key _ _ _ c.earlier-candidate.result last;
      left = λ known reached key.
          left_next m _ _ _ _ _ known c.args.key key c.in-Some.place c.earlier-candidate.result
          (left_at m _ _ _ _ _ known c.args.key key c.loop-candidate.candidate c.in-Some.place (left known reached key) c.in-Some.is) last
          (holds_other m _ _ _ _ _ (g.met.Z.Puzzle.lawful c.args.puzzle.now) known reached c.in-Some.place c.holds.result c.holds.ensures c.if-holds.false);
    })

pub returns-clause-finds : goal.returns-clause-finds
unfolding nodes_of
returns-clause-finds g c =
    let m = g.Z.Puzzle.meaning c.args.puzzle.now in
    let left = rw (← c.self.view_is) at c.loop-candidate.invariant.left in
    rw (← c.self.view_is) (λ known reached key. left_none m _ _ _ _ _ known c.args.key key c.loop-candidate.candidate (left known reached key) c.in_default.is)
