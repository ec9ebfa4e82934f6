use Rattle.std.proofs.Common.{◌≡◌, ◌≢◌, ◌+◌, ◌*◌, true, not, eqb, get_or, subst, sym, ap, ◌∙◌, arith}
use Rattle.std.proofs.lemmas.Bool.{ne_eqb}
use Rattle.pattern_databases.specs.inside.Walking.{is_marked}
use Rattle.pattern_databases.proofs.Tables.{direction_at, numbered, read}
use Rattle.pattern_databases.proofs.Rays.{next_inside, next_less, with_step, with_stop, count_more, reached_all, ReachedWith}
use Rattle.pattern_databases.proofs.neighbours.Neighbours.walk_free.Goals as goal
use Rattle.pattern_databases.proofs.neighbours.Neighbours.walk_free.Goals.{then-next-at-via-then-next-at, then-next-at-via-else-next-at+then-map-from-ne-FREE}

pub loop-at-smaller : goal.loop-at-smaller
loop-at-smaller c =
    let self = c.args.self.now in
    let d = direction_at c.loop-direction.direction-index in
    let on = c.loop-at.invariant.on in
    let is = read _ _ self.steps self.stepped d _ _ _ c.from.ensures.named c.from-in-loop-at.ensures on in
    omega (arith, next_less _ _ c.args.map.now d c.loop-at.at _ is c.if-next-at.false)

pub loop-at-preserved : goal.loop-at-preserved
loop-at-preserved c =
    let self = c.args.self.now in
    let d = direction_at c.loop-direction.direction-index in
    let on = c.loop-at.invariant.on in
    let is = read _ _ self.steps self.stepped d _ _ _ c.from.ensures.named c.from-in-loop-at.ensures on in
    let other = c.if-next-at.false in
    let map = c.args.map.now in
    let free = ap (is_marked map) (sym c.from-else-next-at.ensures) ∙ ap (λ n. not (eqb n 0)) c.if-map-from-ne-FREE.false in
    let less = next_less _ _ c.args.map.now d c.loop-at.at _ is other in
    record {
      on = next_inside _ _ c.args.map.now d c.loop-at.at _ is other;
      few = omega (arith, count_more _ _ _ _ _ (omega arith) (omega arith) c.push.ensures);
      reached = subst (ReachedWith _ _ map c.loop-direction.direction-index d c.args.from _) (sym c.push.ensures)
          (with_step _ _ map d c.loop-at.at _ is _ _ _ c.loop-at.invariant.reached other free);
    }

pub loop-direction-preserved : goal.loop-direction-preserved
loop-direction-preserved c =
    let self = c.args.self.now in
    let map = c.args.map.now in
    let d = direction_at c.loop-direction.direction-index in
    let next = get_or self.steps (c.from.result * 256 + c.from-in-loop-at.result) 0 in
    let on = c.loop-at.invariant.on in
    let is = read _ _ self.steps self.stepped d _ _ _ c.from.ensures.named c.from-in-loop-at.ensures on in
    let number = sym (numbered c.loop-direction.direction-index c.loop-direction-test.true) in
    let stop : next ≢ c.loop-at.at → is_marked map next ≡ true = elim c.then-next-at.branch [
      | then-next-at-via-then-next-at w ↦ λ other. absurd (other w.if-next-at.true)
      | then-next-at-via-else-next-at+then-map-from-ne-FREE w ↦ λ other.
          ap (is_marked map) (sym w.from-else-next-at.ensures) ∙ ap not (ne_eqb _ 0 w.if-map-from-ne-FREE.true)
    ] in
    record {
      few = omega (arith, c.loop-at.invariant.few);
      reached = with_stop _ _ map d c.loop-at.at next is _ _ _ c.loop-at.invariant.reached number stop;
    }

pub returns : goal.returns
returns c = reached_all _ _ _ _ _ _ c.loop-direction-test.false c.loop-direction.invariant.reached
