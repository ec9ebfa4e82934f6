use Rattle.std.proofs.Common.{[], sym, subst}
use Rattle.puzzle.specs.Game.{Reached, here}
use Rattle.ways.proofs.walk.Walk.start.Goals as goal

pub invariant_of-result : goal.invariant_of-result
invariant_of-result g c =
    let game = (g.L.Puzzle.meaning c.args.level.now).game in
    record { reached = ∣ subst (Reached game) (sym c.start.ensures) ([], here) ∣₁ }
