use Rattle.atoms.specs.Level.{atoms}
use Rattle.pattern_databases.specs.inside.Blocks.{FilledBlock}
use Rattle.pattern_databases.proofs.BookBlocks.{Reached}
use Rattle.pattern_databases.proofs.layout.Layout.fill.Given as goal

abbrev pub invariant-loop-number : goal.invariant-loop-number
invariant-loop-number l =
    let level = atoms l.self.level.now in
    Reached level (FilledBlock level) l.bytes l.scratch.map l.start l.goal_place-index l.number

abbrev pub invariant-loop-goal_place : goal.invariant-loop-goal_place
invariant-loop-goal_place l =
    let level = atoms l.self.level.now in
    Reached level (FilledBlock level) l.bytes l.scratch.map l.start l.goal_place-index 0
