use Rattle.std.proofs.Common.{◌≡◌}
use Rattle.atoms.specs.Level.{atoms}
use Rattle.pattern_databases.proofs.Testing.{MeetsBelow}
use Rattle.pattern_databases.proofs.block.Block.meets.Given as goal

abbrev pub invariant-loop-number : goal.invariant-loop-number
invariant-loop-number l =
    (l.map ≡ l.fn.map)
    × MeetsBelow (atoms l.self.layout.now.level.now) l.self.goal_place l.self.part.now l.entries l.condition l.number
