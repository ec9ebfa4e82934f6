use Rattle.std.proofs.Common.{◌≡◌}
use Rattle.atoms.specs.Level.{atoms}
use Rattle.pattern_databases.specs.Layout.{first_blocks}
use Rattle.pattern_databases.proofs.layout.Layout.place_length.Given as goal

abbrev pub invariant-loop-number : goal.invariant-loop-number
invariant-loop-number l = l.length ≡ first_blocks (atoms l.self.level.now) l.number
