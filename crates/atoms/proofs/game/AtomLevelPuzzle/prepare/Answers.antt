use Rattle.atoms.specs.Level.{atoms}
use Rattle.atoms.proofs.Blocking.{blocked_more}
use Rattle.atoms.proofs.game.AtomLevelPuzzle.prepare.Goals as goal

pub loop-cell-preserved : goal.loop-cell-preserved
loop-cell-preserved c =
    blocked_more (atoms c.args.self.now) _ _ _ _ c.loop-cell-test.true c.loop-cell.invariant c.insert.ensures
