use Rattle.std.proofs.Common.{◌+◌, ◌*◌, ◌<◌, ◌≤◌, subst, sym, ap, ◌∙◌, arith, rules}
use Rattle.std.specs.Option.{unwrap_or}
use Rattle.pattern_databases.proofs.Walking.{cells_few}
use Rattle.pattern_databases.proofs.Tables.{numbered, one_more, parts_stay}
use Rattle.pattern_databases.proofs.neighbours.Neighbours.new.Goals as goal

pub loop-cell-preserved : goal.loop-cell-preserved
loop-cell-preserved c =
    let b = c.args.board.now in
    let is = ap (λ n. n * 256 + c.loop-cell.cell) c.from.ensures.named in
    let number = numbered c.loop-direction.direction-index c.loop-direction-test.true in
    let few = subst (λ g. g.width * g.height ≤ 256) (sym c.grid-grid.ensures) (cells_few _ _ b.wide.1 b.high) in
    let grid = c.grid-grid.result in
    let on : c.loop-cell.cell < grid.width * grid.height = omega (arith, c.cells-cell-end.ensures) in
    let right = c.unwrap_or-next.ensures ∙ ap (λ o. unwrap_or o c.loop-cell.cell) c.neighbour.ensures.named in
    record {
      long = search rules;
      before = parts_stay _ _ _ _ _ _ _ is few _ (omega arith) c.loop-cell.invariant.before;
      here = one_more _ _ _ _ _ _ _ is (omega arith) right c.loop-cell.invariant.here;
    }
