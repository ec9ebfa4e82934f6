use Rattle.std.proofs.Common.{◌<◌, length, take, sym, ap, ◌∙◌, subst, arith}
use Rattle.std.proofs.lemmas.Bool.{false≢true}
use Rattle.pictures.proofs.Shapes.{length_cells}
use Rattle.atoms.specs.Level.{atoms}
use Rattle.pattern_databases.specs.PartMoves.{Stands}
use Rattle.pattern_databases.specs.Layout.{placement_number}
use Rattle.pattern_databases.specs.inside.Filling.{front, Near, IsGoal}
use Rattle.pattern_databases.proofs.BreadthFirst.{collected_goal, collected_other}
use Rattle.pattern_databases.proofs.Filling.{keeps_on, goal_decided}
use Rattle.pattern_databases.proofs.block.Block.reach_goals.Goals as goal
use Rattle.pattern_databases.proofs.block.Block.reach_goals.Goals.{then-is_goal, else-is_goal}

pub loop-number-preserved : goal.loop-number-preserved
loop-number-preserved c =
    let block = c.args.self.now in
    let level = block.layout.now.level.now in
    let l = atoms level in
    let part = block.part.now in
    let near = Near l part in
    let is_goal = IsGoal l block.goal_place part in
    let f = front c.loop-number.frontier in
    let n = c.loop-number.number in
    let before = c.loop-number.invariant in
    let cells = c.as_slice.result.now in
    let shown = c.as_slice.ensures ∙ ap (λ size. take size c.placement.result.cells) c.placement.ensures.size in
    let stands = subst (Stands l.board (length part)) (sym shown) c.placement.ensures.stands in
    let number = ap (placement_number l.board) shown ∙ c.placement.ensures.number in
    let decided = goal_decided l block.goal_place part (length_cells level.board) cells n c.is_goal.result stands number
    c.is_goal.ensures in
    elim c.if-is_goal.branch [
      | then-is_goal w ↦
          let there : n < length f.entries = omega (arith, c.loop-number.auto.number-end, before.kept.whole) in
          record {
            collected = rw (w.frontier-is, w.reach.ensures.reached)
                (collected_goal near is_goal f n (decided.0 w.if-is_goal.true) there before.collected);
            kept = rw w.frontier-is (keeps_on _ _ _ before.kept w.reach.ensures.kept);
          }
      | else-is_goal w ↦
          let none = λ (g : is_goal n). false≢true (sym w.if-is_goal.false ∙ decided.1 g) in
          record {
            collected = rw w.frontier-is (collected_other near is_goal f n none before.collected);
            kept = rw w.frontier-is before.kept;
          }
    ]
