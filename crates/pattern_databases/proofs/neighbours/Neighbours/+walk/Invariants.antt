use Rattle.std.proofs.Common.{◌+◌, ◌*◌, length}
use Rattle.pattern_databases.proofs.neighbours.Neighbours.+walk.Given as goal

-- the cells that are still to be marked, where those after the atom count twice: they are marked in its place last
abbrev pub decreases-walk : goal.decreases-walk
decreases-walk l = length l.before.now + 2 * length l.after.now
