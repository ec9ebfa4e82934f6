use Rattle.std.proofs.Common.{◌≡◌, ◌+◌, ◌≤◌, length, get_or, sym, ap, ◌∙◌, subst, rules, arith}
use Rattle.atoms.specs.Level.{atoms}
use Rattle.pattern_databases.specs.Layout.{block_length}
use Rattle.pattern_databases.specs.inside.Blocks.{FilledBlock}
use Rattle.pattern_databases.proofs.Layouts.{next_of, block_few, part_count_is}
use Rattle.pattern_databases.proofs.BookBlocks.{Next, reached_filled, reached_place, next_inside, next_length, each_block}
use Rattle.pattern_databases.proofs.Blockwise.{filled_from}
use Rattle.pattern_databases.proofs.layout.Layout.fill.Goals as goal
use Rattle.pattern_databases.proofs.layout.Layout.fill.Goals.{After-placements}

-- the block of this turn
next : (c : After-placements) → Next (atoms c.args.self.now.level.now) c.loop-number.start (c.loop-number.start + c.placements.result)
    (get_or c.goal_places-goal_place-items.result.now c.loop-goal_place.goal_place-index 0) c.loop-goal_place.goal_place-index
    c.new-block.result.part.now c.loop-number.number
next c =
    next_of c.args.self.now c.goal_places-goal_place-items.ensures (omega arith) (omega arith) c.new-block.ensures.part c.placements.ensures

pub overflow_add-end : goal.overflow_add-end
overflow_add-end c =
    omega (arith, next_inside _ _ (next (goal.at.overflow_add-end c).After-placements) c.loop-number.invariant)

pub slice_bounds-fill-end : goal.slice_bounds-fill-end
slice_bounds-fill-end c =
    let inside : c.loop-number.start + c.placements.result ≤ length c.loop-number.bytes = next_inside _ _ (next (goal.at.slice_bounds-fill-end c).After-placements) c.loop-number.invariant in
    search rules

pub fill-requires-clause-room : goal.fill-requires-clause-room
fill-requires-clause-room c =
    let s = c.args.self.now in
    let level = atoms s.level.now in
    let after = (goal.at.fill-requires-clause-room c).After-placements in
    let size = next_length level (FilledBlock level) (next after) c.loop-number.invariant ∙ ap (block_length level) c.new-block.ensures.part in
    let few = subst (λ n. n ≤ 65536) (sym size) (block_few s c.loop-number.number) in
    let queue : c.deref_mut.result.now ≡ c.loop-number.scratch.queue.items = c.deref_mut.ensures.value in
    omega (arith, few, ap length queue, c.loop-number.scratch.queue.ok.0, c.loop-number.scratch.queued)

pub loop-number-preserved : goal.loop-number-preserved
loop-number-preserved c =
    let level = atoms c.args.self.now.level.now in
    let block = c.new-block.result in
    let filled = subst (λ place. FilledBlock level place block.part.now c.fill.new.entries) c.new-block.ensures.place
    (subst (λ s. FilledBlock (atoms s.level.now) block.goal_place block.part.now c.fill.new.entries) c.new-block.ensures.layout c.fill.ensures.filled) in
    reached_filled level (FilledBlock level) (next (goal.at.loop-number-preserved c).After-placements) c.loop-number.invariant
    c.fill.new.map c.fill.new.entries c.fill.ensures.kept c.fill.ensures.whole filled

pub loop-goal_place-preserved : goal.loop-goal_place-preserved
loop-goal_place-preserved c =
    let level = atoms c.args.self.now.level.now in
    reached_place level (FilledBlock level) (omega (arith, part_count_is c.args.self.now)) c.loop-number.invariant

pub returns-clause-filled : goal.returns-clause-filled
returns-clause-filled c =
    let level = atoms c.args.self.now.level.now in
    let reached = c.loop-goal_place.invariant in
    filled_from level c.loop-goal_place.bytes reached.long
    (each_block level (FilledBlock level) c.loop-goal_place.bytes c.loop-goal_place.goal_place-index 0
    (omega (arith, ap length c.goal_places-goal_place-items.ensures)) reached.each)
