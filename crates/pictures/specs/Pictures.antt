-- Rectangles of cells. Assumes nothing.
use Rattle.std.specs.Prelude.{ℕ, ◌+◌, ◌*◌, cond, ◌&&◌, List, [], ◌++◌, length, take, Some, None, Option, ◌==◌, nat_le, nat_lt, slice_index_or}
use Rattle.pictures.specs.declared.cell.Cell.{Cell}
use Rattle.pictures.specs.declared.cell.Cell.TheVariants.{Wall}
use Rattle.pictures.specs.declared.picture.Picture.{Picture}
use Rattle.pictures.specs.Cells.{cells_of}

-- a rectangle of cells, row by row
pub record Shape : Type 0 where
  pub width : ℕ
  pub height : ℕ
  pub cells : List Cell

abbrev pub shape_of : ℕ → ℕ → List Cell → Shape
shape_of w h xs = record { width = w; height = h; cells = xs }

-- what a picture shows
abbrev pub shape : Picture → Shape
shape p = shape_of p.grid.width p.grid.height (take (p.grid.width * p.grid.height) p.cells)

-- a picture with no row yet
abbrev pub blank_shape : ℕ → Option Shape
blank_shape w = cond (nat_le 1 w && nat_le w 16) (Some (shape_of w 0 [])) None

-- the same with one row more, where the row is as wide and each character of it draws a cell
abbrev pub with_row : Shape → List ℕ → Option Shape
with_row s row =
    cond (length row == s.width && nat_lt s.height 16)
    (elim (cells_of row) [ Some xs ↦ Some (shape_of s.width (s.height + 1) (s.cells ++ xs)) | None ↦ None ])
    None

-- the cell with a number in reading order; past the last cell all is wall
abbrev pub cell_at : Shape → ℕ → Cell
cell_at s i = slice_index_or s.cells i Wall
