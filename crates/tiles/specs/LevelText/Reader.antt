-- What the reader in the code stands for: cited by private functions alone. Assumes nothing.
use Rattle.std.specs.Prelude.{ℕ, ◌*◌, List, Option, Result}
use Rattle.std.specs.Option.{option_map}
use Rattle.refusals.specs.declared.Fault.{Fault}
use Rattle.text.specs.Lines.{bytes}
use Rattle.tiles.specs.Board.{position_of, first_cells}
use Rattle.tiles.specs.declared.level_text.reader.Form as code
use Rattle.tiles.specs.declared.level_text.reader.Form.TheVariants as coded
use Rattle.tiles.specs.declared.level_text.reader.Reader.{Reader}
use Rattle.tiles.specs.declared.level_text.reader.Reader.TheVariants.{Head, Rows, Close, End}
use Rattle.tiles.specs.declared.level_text.rows.Rows as so_far
use Rattle.tiles.specs.declared.level_text.rows.Board as full
use Rattle.tiles.specs.LevelText.Reading.{Form, size, row, close, Expect, head, rows, last, nothing, numbers_in, after_row}

-- a form with the bytes in place of a reference to them
abbrev pub form_value : code.Form → Form
form_value (coded.Size w h) = size w h
form_value (coded.Row x) = row (bytes x)
form_value coded.Close = close

abbrev pub tiles_so_far : so_far.Rows → List ℕ
tiles_so_far r = first_cells r.count r.cells

-- the tiles of the row that these bytes spell, packed
abbrev pub packed_row : so_far.Rows → List ℕ → Option ℕ
packed_row r x = option_map position_of (numbers_in (r.grid.width * r.grid.height) r.grid.width x)

-- after that row
abbrev pub after_next_row : so_far.Rows → List ℕ → Result Expect Fault
after_next_row r x = after_row r.grid.width r.grid.height r.due (tiles_so_far r) x

abbrev pub all_tiles : full.Board → List ℕ
all_tiles b = first_cells (b.grid.width * b.grid.height) b.cells

-- what a reader expects next
abbrev pub view : Reader → Expect
view Head = head
view (Rows r) = rows r.grid.width r.grid.height r.due (tiles_so_far r)
view (Close b) = last b.grid.width b.grid.height (all_tiles b)
view (End b) = nothing b.grid.width b.grid.height (all_tiles b)
