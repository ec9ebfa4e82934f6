use Rattle.std.proofs.Common.{◌-◌}
use Rattle.text.proofs.Pens.{Leads}
use Rattle.tiles.proofs.LevelText.Writing.{rows_text}
use Rattle.tiles.proofs.level_text.writer.LevelTextCompose.compose.Given as goal

abbrev pub invariant-loop : goal.invariant-loop
invariant-loop l =
    Leads (rows_text l.grid.height l.grid.width l.initial.cells) (rows_text (l.grid.height - l.counter) l.grid.width l.cells) l.initial.pen l.pen
