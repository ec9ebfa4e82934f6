-- Walls and atoms of a picture. Assumes nothing.
use Rattle.std.specs.Prelude.{◌≡◌, ℕ, ◌-◌, Bool, true, false, cond, ◌&&◌, List, None, count_by, Option, ◌==◌, nat_eq, slice_index_or}
use Rattle.std.specs.List.{list_all, list_any, range_with_len}
use Rattle.grid.specs.Grid.{at}
use Rattle.pictures.specs.declared.cell.Cell.{Cell}
use Rattle.pictures.specs.declared.cell.Cell.TheVariants.{Wall, Free, Atom}
use Rattle.pictures.specs.Pictures.{Shape, cell_at, with_row}
use Rattle.molecules.specs.Below.{some_below}

abbrev pub is_wall : Cell → Bool
is_wall Wall = true
is_wall Free = false
is_wall (Atom x) = false

abbrev pub is_atom : Cell → Bool
is_atom Wall = false
is_atom Free = false
is_atom (Atom x) = true

-- an atom of this label
abbrev pub has_label : ℕ → Cell → Bool
has_label label Wall = false
has_label label Free = false
has_label label (Atom x) = label == x

-- no cell is a wall
abbrev pub Unwalled : Shape → Type 0
Unwalled s = (i : ℕ) → is_wall (slice_index_or s.cells i Free) ≡ false

-- whether a character draws a wall
abbrev pub draws_wall : List ℕ → Bool
draws_wall row = list_any (λ c. c == 35) row

-- one row more, of `.` and letters
abbrev pub with_want : Shape → List ℕ → Option Shape
with_want s row = cond (draws_wall row) None (with_row s row)

-- how many atoms there are, and how many of a label
abbrev pub atom_count : Shape → ℕ
atom_count s = count_by is_atom s.cells

abbrev pub label_count : Shape → ℕ → ℕ
label_count s label = count_by (has_label label) s.cells

-- each letter A to Z is as often a label in one picture as in the other
abbrev pub same_labels : Shape → Shape → Bool
same_labels b m = list_all (λ label. nat_eq (label_count b label) (label_count m label)) (range_with_len 65 26)

-- the same of every label, which is a letter
abbrev pub SameLabels : Shape → Shape → Type 0
SameLabels b m = (label : ℕ) → label_count b label ≡ label_count m label

-- an atom is at a row and a column
abbrev pub is_atom_at : Shape → ℕ → ℕ → Bool
is_atom_at s r c = is_atom (cell_at s (at s.width r c))

-- a row, a column holds an atom
abbrev pub row_holds : Shape → ℕ → Bool
row_holds s r = some_below s.width (λ c. is_atom_at s r c)

abbrev pub column_holds : Shape → ℕ → Bool
column_holds s c = some_below s.height (λ r. is_atom_at s r c)

-- each edge row and each edge column holds an atom
abbrev pub is_edged : Shape → Bool
is_edged s =
    (row_holds s 0 && row_holds s (s.height - 1)) && (column_holds s 0 && column_holds s (s.width - 1))
