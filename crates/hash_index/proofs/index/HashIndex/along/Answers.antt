use Rattle.std.proofs.Common.{ℕ, ◌<◌, MatchOption, subst, sym, ◌∙◌, arith}
use Rattle.std.specs.Prelude.{⊤}
use Rattle.std.proofs.lemmas.Option.{MatchOption-at_some}
use Rattle.hash_index.proofs.Views.{length_index}
use Rattle.hash_index.proofs.Largest.{largest_below, below_more}
use Rattle.hash_index.proofs.Walking.{Ahead, begins, goes_on, finds, ends, left_fewer}
use Rattle.hash_index.proofs.index.HashIndex.along.Goals as goal

pub loop-next-init : goal.loop-next-init
loop-next-init c = record {
  inside = subst (λ (n : ℕ). MatchOption c.args.from ⊤ (λ place. place < n)) (length_index c.self.inside c.args.self.now c.self.view_is) c.requires;
  ahead = λ n largest. begins _ _ _ n c.args.from largest;
}

pub returns-then-key : goal.returns-then-key
returns-then-key c =
    let inside = MatchOption-at_some _ _ c.in-Some.place c.in-Some.is c.loop-next.invariant.inside in
    rw (← c.self.view_is) (λ n largest. finds _ _ _ n c.self.inside.used c.in-Some.place inside (subst (Ahead _ _ _ n) c.in-Some.is (c.loop-next.invariant.ahead n largest)) (sym c.key.ensures ∙ c.if-key.true))

pub loop-next-smaller : goal.loop-next-smaller
loop-next-smaller c =
    let inside = MatchOption-at_some _ _ c.in-Some.place c.in-Some.is c.loop-next.invariant.inside in
    rw (c.link-next.ensures, c.in-Some.is) (left_fewer _ c.in-Some.place (largest_below _ _ _ (c.self.invariant.links c.in-Some.place inside)))

pub loop-next-preserved : goal.loop-next-preserved
loop-next-preserved c =
    let inside = MatchOption-at_some _ _ c.in-Some.place c.in-Some.is c.loop-next.invariant.inside in
    rw c.link-next.ensures (record {
      inside = below_more _ c.in-Some.place c.self.inside.used (omega (arith, inside)) (largest_below _ _ _ (c.self.invariant.links c.in-Some.place inside));
      ahead = λ n largest. goes_on _ _ _ n c.self.inside.used c.self.invariant.links c.in-Some.place inside (subst (Ahead _ _ _ n) c.in-Some.is (c.loop-next.invariant.ahead n largest)) (λ same. c.if-key.false (c.key.ensures ∙ same));
    })

pub returns : goal.returns
returns c = rw (← c.self.view_is) (λ n largest. ends _ _ _ n c.self.inside.used (subst (Ahead _ _ _ n) c.in_default.is (c.loop-next.invariant.ahead n largest)))
