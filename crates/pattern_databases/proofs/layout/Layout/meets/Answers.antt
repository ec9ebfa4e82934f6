use Rattle.std.proofs.Common.{◌+◌, ◌≤◌, length, get_or, slice_range, Decides, ap, subst, refl, rules, arith}
use Rattle.std.proofs.lemmas.Bool.{false≢true, both_ways}
use Rattle.pictures.proofs.Shapes.{length_cells}
use Rattle.atoms.specs.Level.{atoms}
use Rattle.pattern_databases.specs.inside.Blocks.{Meets, MeetsAll}
use Rattle.pattern_databases.proofs.Layouts.{next_of, part_count_is}
use Rattle.pattern_databases.proofs.BookBlocks.{Next, reached_met, reached_place, next_inside, next_holds, each_block}
use Rattle.pattern_databases.proofs.Blockwise.{meeting, meets_all, meets_each}
use Rattle.pattern_databases.proofs.layout.Layout.meets.Goals as goal
use Rattle.pattern_databases.proofs.layout.Layout.meets.Goals.{After-placements, After-meets}

-- the block of this turn
next : (c : After-placements) → Next (atoms c.args.self.now.level.now) c.loop-number.start (c.loop-number.start + c.placements.result)
    (get_or c.goal_places-goal_place-items.result.now c.loop-goal_place.goal_place-index 0) c.loop-goal_place.goal_place-index
    c.new-block.result.part.now c.loop-number.number
next c =
    next_of c.args.self.now c.goal_places-goal_place-items.ensures (omega arith) (omega arith) c.new-block.ensures.part c.placements.ensures

-- what the call says of it
decides : (c : After-meets) → Decides c.meets.result
    (Meets (atoms c.args.self.now.level.now) (get_or c.goal_places-goal_place-items.result.now c.loop-goal_place.goal_place-index 0)
    c.new-block.result.part.now (slice_range c.args.bytes.now c.loop-number.start (c.loop-number.start + c.placements.result)) c.args.condition)
decides c =
    let block = c.new-block.result in
    let entries = slice_range c.args.bytes.now c.loop-number.start (c.loop-number.start + c.placements.result) in
    subst (λ place. Decides c.meets.result (Meets (atoms c.args.self.now.level.now) place block.part.now entries c.args.condition)) c.new-block.ensures.place
    (subst (λ s. Decides c.meets.result (Meets (atoms s.level.now) block.goal_place block.part.now entries c.args.condition)) c.new-block.ensures.layout
    c.meets.ensures.decides)

pub overflow_add-end : goal.overflow_add-end
overflow_add-end c =
    omega (arith, next_inside _ _ (next (goal.at.overflow_add-end c).After-placements) c.loop-number.invariant)

pub slice_bounds-meets-end : goal.slice_bounds-meets-end
slice_bounds-meets-end c =
    let inside : c.loop-number.start + c.placements.result ≤ length c.args.bytes.now =
    next_inside _ _ (next (goal.at.slice_bounds-meets-end c).After-placements) c.loop-number.invariant in
    search rules

pub loop-goal_place-preserved : goal.loop-goal_place-preserved
loop-goal_place-preserved c =
    let level = atoms c.args.self.now.level.now in
    reached_place level (meeting level c.args.condition) (omega (arith, part_count_is c.args.self.now)) c.loop-number.invariant

pub loop-number-preserved : goal.loop-number-preserved
loop-number-preserved c =
    let level = atoms c.args.self.now.level.now in
    let holds = (decides (goal.at.loop-number-preserved c).After-meets).0 c.if-not-meets.false in
    reached_met level (meeting level c.args.condition) (next (goal.at.loop-number-preserved c).After-placements) c.loop-number.invariant
    c.meets.new.map c.meets.ensures.kept holds

pub returns-then-not-meets-clause-decides : goal.returns-then-not-meets-clause-decides
returns-then-not-meets-clause-decides c =
    let level = atoms c.args.self.now.level.now in
    let sized = length_cells c.args.self.now.level.now.board in
    let after = goal.at.returns-then-not-meets-clause-decides c in
    let fails = λ (all : MeetsAll level c.args.bytes.now c.args.condition).
    both_ways c.meets.result c.if-not-meets.true
    ((decides after.After-meets).1
    (next_holds level (meeting level c.args.condition) (next after.After-placements) c.loop-number.invariant
    (meets_each level sized c.args.bytes.now c.args.condition all))) in
    (λ impossible. absurd (false≢true impossible), λ all. absurd (fails all))

pub returns-clause-decides : goal.returns-clause-decides
returns-clause-decides c =
    let level = atoms c.args.self.now.level.now in
    let reached = c.loop-goal_place.invariant in
    let all = meets_all level (length_cells c.args.self.now.level.now.board) c.args.bytes.now c.args.condition
    (each_block level (meeting level c.args.condition) c.args.bytes.now c.loop-goal_place.goal_place-index 0
    (omega (arith, ap length c.goal_places-goal_place-items.ensures)) reached.each) in
    (λ _. all, λ _. refl)
