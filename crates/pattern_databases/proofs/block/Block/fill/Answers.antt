use Rattle.std.proofs.Common.{rules}
use Rattle.pictures.proofs.Shapes.{length_cells}
use Rattle.atoms.specs.Level.{atoms}
use Rattle.pattern_databases.specs.inside.Filling.{front}
use Rattle.pattern_databases.proofs.Filling.{filled}
use Rattle.pattern_databases.proofs.Spreading.{taken_last}
use Rattle.pattern_databases.proofs.block.Block.fill.Goals as goal

pub reach_from-requires-clause-taken : goal.reach_from-requires-clause-taken
reach_from-requires-clause-taken c =
    let block = c.args.self.now in
    taken_last (atoms block.layout.now.level.now) block.goal_place block.part.now c.loop-number.frontier c.take.new.self
    c.in-Some.number c.loop-number.invariant.searched c.in-Some.ensures

pub returns-clause-filled : goal.returns-clause-filled
returns-clause-filled c =
    let block = c.args.self.now in
    let level = block.layout.now.level.now in
    let before = c.loop-number.invariant in
    let none = c.in_default.ensures in
    let same = none.1 in
    filled (atoms level) block.goal_place block.part.now (length_cells level.board) (front c.loop-number.frontier)
    c.loop-number.frontier.taken _ before.whole before.searched none.0 (search rules)
