use Rattle.std.proofs.Common.{◌≡◌, ℕ, ◌<◌, set}
use Rattle.atoms.specs.Level.{atoms}
use Rattle.pattern_databases.specs.PartMoves.{Goes}
use Rattle.pattern_databases.specs.inside.Blocks.{IsConsistent}
use Rattle.pattern_databases.proofs.block.Block.moves_at.Given as goal

abbrev pub invariant-loop-atom : goal.invariant-loop-atom
invariant-loop-atom l =
    let level = atoms l.self.layout.now.level.now in
    (l.map ≡ l.fn.map) × ((k : ℕ) → k < l.atom → (to : ℕ) → Goes level.board l.cells k to
    → IsConsistent level l.self.goal_place l.self.part.now l.entries l.cells (set l.cells k to))
