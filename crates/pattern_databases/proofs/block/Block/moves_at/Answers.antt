use Rattle.std.proofs.Common.{ℕ, get_or, refl, sym, ◌∙◌, subst, below_more, arith}
use Rattle.std.proofs.lemmas.Bool.{false≢true}
use Rattle.atoms.specs.Level.{atoms}
use Rattle.pattern_databases.specs.PartMoves.{Goes}
use Rattle.pattern_databases.specs.inside.Walking.{ShowsWalls}
use Rattle.pattern_databases.specs.inside.Blocks.{IsConsistent}
use Rattle.pattern_databases.proofs.Moves.{move_of}
use Rattle.pattern_databases.proofs.Bytes.{all_stand}
use Rattle.pattern_databases.proofs.block.Block.moves_at.Goals as goal

pub loop-atom-init : goal.loop-atom-init
loop-atom-init c = (refl, λ k h. absurd (omega arith))

pub moves_of-requires-clause-walls : goal.moves_of-requires-clause-walls
moves_of-requires-clause-walls c =
    let board = (atoms c.args.self.now.layout.now.level.now).board in
    subst (ShowsWalls board) (sym c.loop-atom.invariant.0) c.requires.walls

pub returns-then-not-moves_of-clause-decides : goal.returns-then-not-moves_of-clause-decides
returns-then-not-moves_of-clause-decides c =
    let board = (atoms c.args.self.now.layout.now.level.now).board in
    let stands = all_stand c.requires.byte in
    let move = λ (to : ℕ) (goes : Goes board c.args.cells.now c.loop-atom.atom to).
    move_of board stands c.requires.apart c.loop-atom-test.true goes in (
      λ e. absurd (false≢true e),
      λ all. sym c.if-not-moves_of.true ∙ c.moves_of.ensures.decides.1 (λ to goes. all _ (move to goes)),
    )

pub returns-then-not-moves_of-clause-kept : goal.returns-then-not-moves_of-clause-kept
returns-then-not-moves_of-clause-kept c = c.moves_of.ensures.kept ∙ c.loop-atom.invariant.0

pub loop-atom-preserved : goal.loop-atom-preserved
loop-atom-preserved c = (
  c.moves_of.ensures.kept ∙ c.loop-atom.invariant.0,
  below_more _ _ c.loop-atom.invariant.1 (c.moves_of.ensures.decides.0 c.if-not-moves_of.false),
)

pub returns-clause-decides : goal.returns-clause-decides
returns-clause-decides c =
    let block = c.args.self.now in
    let l = atoms block.layout.now.level.now in
    let consistent = IsConsistent l block.goal_place block.part.now c.args.entries.now c.args.cells.now in (
      λ e after m. subst consistent (sym m.others)
          (c.loop-atom.invariant.1 m.atom (omega (arith, m.there)) (get_or after m.atom 0) m.goes),
      λ all. refl,
    )

pub returns-clause-kept : goal.returns-clause-kept
returns-clause-kept c = c.loop-atom.invariant.0
