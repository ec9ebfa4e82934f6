use Rattle.std.proofs.Common.{sym, ◌∙◌, arith}
use Rattle.text.specs.Lines.{bytes}
use Rattle.tiles.proofs.LevelText.Taking.{RowAdded, adds_row}
use Rattle.tiles.proofs.level_text.rows.Rows.with_row.Goals as goal
use Rattle.tiles.proofs.level_text.rows.Rows.with_row.Goals.{In_ok-tiles}

after : (c : In_ok-tiles) → RowAdded c.args.self c.in_ok-tiles.tiles (bytes c.args.row) (sym c.in_ok-tiles.ensures.ok_part ∙ c.read_row.ensures)
after c =
    adds_row c.args.self c.in_ok-tiles.tiles (bytes c.args.row) (sym c.in_ok-tiles.ensures.ok_part ∙ c.read_row.ensures)

pub overflow_add-cells : goal.overflow_add-cells
overflow_add-cells c = omega (arith, (after (goal.at.overflow_add-cells c).In_ok-tiles).fits)

pub invariant_of-result : goal.invariant_of-result
invariant_of-result c =
    record { wide = c.args.self.wide; high = c.args.self.high; below = (after (goal.at.invariant_of-result c).In_ok-tiles).full c.if-self-eq1.true }

pub returns-then-self-eq1 : goal.returns-then-self-eq1
returns-then-self-eq1 c = sym ((after (goal.at.returns-then-self-eq1 c).In_ok-tiles).ends c.if-self-eq1.true)

pub invariant_of-result-2 : goal.invariant_of-result-2
invariant_of-result-2 c =
    let added = after (goal.at.invariant_of-result-2 c).In_ok-tiles in
    let more = c.if-self-eq1.false in
    let some = c.args.self.some in
    record {
      wide = c.args.self.wide;
      high = c.args.self.high;
      some = omega arith;
      counted = rw c.from.ensures added.counted;
      below = rw c.from.ensures added.below;
    }

pub returns : goal.returns
returns c = rw c.from.ensures (sym ((after (goal.at.returns c).In_ok-tiles).goes_on c.if-self-eq1.false))
