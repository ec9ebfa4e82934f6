-- The atoms of a board and where they stand. Assumes nothing.
use Rattle.std.specs.Prelude.{ℕ, ◌-◌, Bool, List, ◌++◌, map, length, replicate, filter, slice_index_or}
use Rattle.std.specs.List.{range_with_len}
use Rattle.pictures.specs.declared.cell.Cell.{Cell}
use Rattle.pictures.specs.declared.cell.Cell.TheVariants.{Wall, Free, Atom}
use Rattle.pictures.specs.Pictures.{Shape, cell_at}
use Rattle.molecules.specs.Atoms.{is_wall, is_atom}

-- the cells of the atoms in reading order: the atom with number a stands on cell number a of the list
abbrev pub atom_cells : Shape → List ℕ
atom_cells b = filter (λ i. is_atom (cell_at b i)) (range_with_len 0 (length b.cells))

abbrev pub label_of : Cell → ℕ
label_of Wall = 0
label_of Free = 0
label_of (Atom x) = x

-- their labels, by number
abbrev pub labels_of : Shape → List ℕ
labels_of b = map (λ i. label_of (cell_at b i)) (atom_cells b)

-- the array of sixteen that begins with these numbers, and is 0 past the last
abbrev pub array_of : List ℕ → List ℕ
array_of xs = xs ++ replicate (16 - length xs) 0

abbrev pub start_cells : Shape → List ℕ
start_cells b = array_of (atom_cells b)

-- whether a cell of the board is a wall
abbrev pub is_wall_at : Shape → ℕ → Bool
is_wall_at b i = is_wall (slice_index_or b.cells i Free)
