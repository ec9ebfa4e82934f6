use Rattle.std.proofs.Common.{◌≡◌, ◌-◌}
use Rattle.tiles.specs.Board.{first_cells}
use Rattle.tiles.specs.LevelText.Writing.{spaced_numbers, cells_after}
use Rattle.text.proofs.Pens.{Leads}
use Rattle.tiles.proofs.level_text.writer.compose_row.Given as goal

abbrev pub invariant-loop : goal.invariant-loop
invariant-loop l = record {
  wrote : Leads (spaced_numbers (first_cells l.width l.cells)) (spaced_numbers (first_cells (l.width - l.counter) l.rest)) l.initial.pen l.pen;
  rest : cells_after (l.width - l.counter) l.rest ≡ cells_after l.width l.cells;
}
