use Rattle.std.proofs.Common.{◌+◌, ◌-◌, ◌*◌, ◌<◌, ◌≤◌, sym, ap, ◌∙◌, arith}
use Rattle.text.specs.Lines.{bytes}
use Rattle.tiles.specs.Board.{position_of}
use Rattle.std.specs.Option.{option_map}
use Rattle.tiles.proofs.Board.{few_cells}
use Rattle.tiles.specs.LevelText.Reading.{numbers_in}
use Rattle.tiles.proofs.LevelText.Packing.{behind, row_missing, row_large, row_more, AddedCell, added_cell}
use Rattle.tiles.proofs.level_text.rows.Rows.read_row.Goals as goal
use Rattle.tiles.proofs.level_text.rows.Rows.read_row.Goals.{Else-tile-cells}

pub returns-in_err-tile : goal.returns-in_err-tile
returns-in_err-tile c =
    let limit = c.args.self.grid.width * c.args.self.grid.height in
    c.from_residual.ensures
    ∙ sym (row_missing _ _ _ _ _ c.loop-column-test.true c.in_err-tile.ensures)
    ∙ c.loop-column.invariant.0
    ∙ ap (λ w. option_map position_of (numbers_in limit w (bytes c.args.row))) c.from-width.ensures

pub returns-then-tile-cells : goal.returns-then-tile-cells
returns-then-tile-cells c =
    let limit = c.args.self.grid.width * c.args.self.grid.height in
    let large : limit ≤ c.in_ok-tile.tile = omega arith in
    sym (row_large _ _ _ _ _ c.loop-column-test.true _ _ c.in_ok-tile.ensures large)
    ∙ c.loop-column.invariant.0
    ∙ ap (λ w. option_map position_of (numbers_in limit w (bytes c.args.row))) c.from-width.ensures

-- the tile fits a cell
cell : (c : Else-tile-cells) → AddedCell c.loop-column.tiles c.loop-column.column c.in_ok-tile.tile
cell c =
    let few = few_cells _ _ c.args.self.wide.1 c.args.self.high.1 in
    let wide = c.args.self.wide in
    added_cell _ _ _ c.loop-column.invariant.1 (omega (arith, c.from-width.ensures)) (omega arith)

pub overflow_add-tiles : goal.overflow_add-tiles
overflow_add-tiles c = rw c.from.ensures (omega (arith, (cell (goal.at.overflow_add-tiles c).Else-tile-cells).fits))

pub loop-column-preserved : goal.loop-column-preserved
loop-column-preserved c =
    let w = c.from-width.result in
    let i = c.loop-column.column in
    let limit = c.args.self.grid.width * c.args.self.grid.height in
    let small : c.in_ok-tile.tile < limit = omega arith in
    let added = cell (goal.at.loop-column-preserved c).Else-tile-cells in
    rw c.from.ensures (
      ap (λ p. behind (i + 1) p (numbers_in limit (w - (i + 1)) (bytes c.in_ok-tile.after))) added.sum
          ∙ sym (row_more _ _ _ _ _ c.loop-column-test.true _ _ c.in_ok-tile.ensures small)
          ∙ c.loop-column.invariant.0,
      added.below,
    )
