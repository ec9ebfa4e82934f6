use Rattle.std.proofs.Common.{◌≡◌, ◌-◌, ◌*◌, ◌^◌, ◌<◌}
use Rattle.text.specs.Lines.{bytes}
use Rattle.tiles.specs.Board.{position_of}
use Rattle.std.specs.Option.{option_map}
use Rattle.tiles.specs.LevelText.Reading.{numbers_in}
use Rattle.tiles.proofs.LevelText.Packing.{behind}
use Rattle.tiles.proofs.level_text.rows.Rows.read_row.Given as goal

abbrev pub invariant-loop-column : goal.invariant-loop-column
invariant-loop-column l =
    let limit = l.self.grid.width * l.self.grid.height in
    (behind l.column l.tiles (numbers_in limit (l.width - l.column) (bytes l.rest)) ≡ option_map position_of (numbers_in limit l.width (bytes l.row)))
    × (l.tiles < 16 ^ l.column)
