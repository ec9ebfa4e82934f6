use Rattle.std.proofs.Common.{◌≡◌, ◌+◌, ◌*◌, ◌<◌, take, drop, None, Some, option_map, sym, ap, ◌∙◌, arith, length-set}
use Rattle.pictures.specs.Cells.{cell_of, cells_of}
use Rattle.pictures.specs.Pictures.{shape}
use Rattle.pictures.proofs.Drawn.{drawn}
use Rattle.pictures.proofs.Rows.{behind, framed, row_more, row_none, row_all, row_fits, row_lettered, with_row_lem}
use Rattle.pictures.proofs.picture.Picture.with_row.Goals as goal
use Rattle.pictures.proofs.picture.Picture.with_row.Goals.{After-loop-column}

pub returns-in_err-cells : goal.returns-in_err-cells
returns-in_err-cells c =
    let p = c.args.self.now in
    let here = drawn c.from-in-loop-column.result None c.try_from.result c.try_from.ensures.draws c.in_err-cells.ensures.value in
    let none = sym c.loop-column.invariant.0 ∙ row_none _ _ _ c.loop-column-test.true (here ∙ ap cell_of c.from-in-loop-column.ensures) in
    ap (option_map shape) c.from_residual.ensures ∙ sym (with_row_lem (shape p) _ (c.if-row-from.false ∙ c.from.ensures) (omega arith) ∙ ap (framed _ _) none)

-- the index of the next cell
next : (c : goal.In_ok-cells) → c.cells-first.result + c.loop-column.column < 256
next c =
    let p = c.args.self.now in
    omega (arith, row_fits p.grid.width p.grid.height c.loop-column.column p.wide.1 (omega arith) (omega arith))

pub bounds-cells-first : goal.bounds-cells-first
bounds-cells-first c = next c

pub loop-column-preserved : goal.loop-column-preserved
loop-column-preserved c =
    let here = drawn c.from-in-loop-column.result (Some c.in_ok-cells.field-0) c.try_from.result c.try_from.ensures.draws c.in_ok-cells.ensures.value in
    let inside = next c in (
      row_more c.loop-column.cells _ _ _ _ (omega arith) c.loop-column-test.true (here ∙ ap cell_of c.from-in-loop-column.ensures)
          ∙ c.loop-column.invariant.0,
      length-set _ _ _ ∙ c.loop-column.invariant.1,
    )

-- the cells of the picture and of the row
whole : (c : After-loop-column) → let p = c.args.self.now in Some (take (p.grid.width * (p.grid.height + 1)) c.loop-column.cells) ≡ behind (shape p).cells (cells_of c.args.row.now)
whole c =
    let p = c.args.self.now in
    let cells = c.loop-column.cells in
    let rest = cells_of (drop c.loop-column.column c.args.row.now) in
    row_all cells c.args.row.now p.grid.width p.grid.height c.loop-column.column (c.if-row-from.false ∙ c.from.ensures) (omega arith)
    ∙ ap (λ n. behind (take (n + c.loop-column.column) cells) rest) (sym c.cells-first.ensures)
    ∙ c.loop-column.invariant.0

pub invariant_of-result : goal.invariant_of-result
invariant_of-result c =
    let p = c.args.self.now in
    record {
      wide = p.wide;
      high = omega arith;
      filled = c.loop-column.invariant.1;
      lettered = row_lettered _ _ c.args.row.now p.lettered (whole c);
    }

pub returns : goal.returns
returns c =
    let p = c.args.self.now in
    ap (framed _ _) (whole (goal.at.returns c).After-loop-column)
    ∙ sym (with_row_lem (shape p) _ (c.if-row-from.false ∙ c.from.ensures) (omega arith))
