use Rattle.std.proofs.Common.{ℕ, ◌<◌, get_or, set}
use Rattle.atoms.specs.Level.{atoms}
use Rattle.pattern_databases.specs.inside.Blocks.{IsConsistent}
use Rattle.pattern_databases.proofs.block.Block.moves_of.Given as goal

abbrev pub invariant-loop-cell : goal.invariant-loop-cell
invariant-loop-cell l =
    let level = atoms l.self.layout.now.level.now in
    (k : ℕ) → k < l.cell-index
    → IsConsistent level l.self.goal_place l.self.part.now l.entries l.cells
    (set l.cells l.atom (get_or l.cell-items k 0))
