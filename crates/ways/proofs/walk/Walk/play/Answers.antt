use Rattle.std.proofs.Common.{◌<◌, sym, subst, arith}
use Rattle.std.proofs.Math.Logic.{∥∥₁_elim, ∥∥₁_map}
use Rattle.puzzle.specs.Game.{Played}
use Rattle.ways.proofs.Walking.{Played-prop, destination_below, play_reaches}
use Rattle.ways.proofs.walk.Walk.play.Goals as goal

pub invariant_of-self : goal.invariant_of-self
invariant_of-self g c =
    let w = c.args.self.now in
    let game = (g.L.Puzzle.meaning w.level.now).game in
    let below : c.args.number < game.count = omega (arith, g.met.L.Puzzle.counted w.level.now) in
    record {
      reached = ∥∥₁_map w.reached (λ r. play_reaches game w.position _ c.args.number _ below r (c.play.ensures r (c.prepare-prepared.ensures r)));
    }

pub returns-clause-leads : goal.returns-clause-leads
returns-clause-leads g c =
    let w = c.args.self.now in
    let game = (g.L.Puzzle.meaning w.level.now).game in
    let below : c.args.number < game.count = omega (arith, g.met.L.Puzzle.counted w.level.now) in
    let played = ∥∥₁_elim w.reached (Played-prop g.row.L-Position.coded (game.move w.position c.args.number) _ _ _) (λ r. c.play.ensures r (c.prepare-prepared.ensures r)) in
    subst (λ o. Played o c.play.result w.position c.play.new.into) (sym (destination_below game w.position c.args.number below)) played
