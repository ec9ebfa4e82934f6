use Rattle.std.proofs.Common.{◌≡◌, length, refl, sym, ◌∙◌, subst, rules, arith}
use Rattle.atoms.specs.Level.{atoms}
use Rattle.pattern_databases.specs.inside.Walking.{ShowsWalls}
use Rattle.pattern_databases.specs.inside.Blocks.{ByteFor}
use Rattle.pattern_databases.proofs.Testing.{MeetsBelow, meets_none, meets_more, meets_all}
use Rattle.pattern_databases.proofs.block.Block.meets.Goals as goal

pub loop-number-init : goal.loop-number-init
loop-number-init c =
    let block = c.args.self.now in
    let l = atoms block.layout.now.level.now in
    (refl, meets_none l block.goal_place block.part.now c.args.entries.now c.args.condition)

pub meets_at-requires-clause-walls : goal.meets_at-requires-clause-walls
meets_at-requires-clause-walls c =
    let board = (atoms c.args.self.now.layout.now.level.now).board in
    subst (ShowsWalls board) (sym c.loop-number.invariant.0) c.requires.walls

pub returns-then-not-meets_at-clause-kept : goal.returns-then-not-meets_at-clause-kept
returns-then-not-meets_at-clause-kept c = c.meets_at.ensures.kept ∙ c.loop-number.invariant.0

pub loop-number-preserved : goal.loop-number-preserved
loop-number-preserved c =
    let block = c.args.self.now in
    let l = atoms block.layout.now.level.now in
    let entries = c.args.entries.now in
    let cells = c.as_slice.result.now in
    let byte : ByteFor l block.part.now entries cells c.loop-number.number = search rules in
    let here = c.meets_at.ensures.decides.0 c.if-not-meets_at.false in (
      c.meets_at.ensures.kept ∙ c.loop-number.invariant.0,
      meets_more l block.goal_place block.part.now entries c.args.condition _ cells byte c.loop-number.invariant.1 here,
    )

pub returns-clause-decides : goal.returns-clause-decides
returns-clause-decides c =
    let block = c.args.self.now in
    let l = atoms block.layout.now.level.now in
    let entries = c.args.entries.now in
    let last : c.loop-number.number ≡ length entries = omega arith in
    let below = MeetsBelow l block.goal_place block.part.now entries c.args.condition in
    let all = subst below last c.loop-number.invariant.1 in
    (λ e. meets_all l block.goal_place block.part.now entries c.args.condition c.requires.whole all, λ met. refl)

pub returns-clause-kept : goal.returns-clause-kept
returns-clause-kept c = c.loop-number.invariant.0
