-- How far the tiles of a board are from home. Assumes nothing.
use Rattle.std.specs.Prelude.{◌≡◌, ℕ, zero, suc, ◌+◌, ◌<◌, List, [], ◌∷◌, slice_index, slice_index_or}
use Rattle.std.specs.Int.{abs_diff}
use Rattle.grid.specs.Grid.{row, column}

-- how many rows and columns two cells of a board w wide are apart
abbrev pub distance : ℕ → ℕ → ℕ → ℕ
distance w i j = abs_diff (row w i) (row w j) + abs_diff (column w i) (column w j)

-- how far a tile on the cell i is from home: tile 1 belongs on cell 0 and so on; the blank, 0, is never far
abbrev pub way_home : ℕ → ℕ → ℕ → ℕ
way_home w i zero = 0
way_home w i (suc t) = distance w i t

-- how far these tiles are from home, of which the first lies on the cell i, all together
abbrev pub total_way_home : ℕ → ℕ → List ℕ → ℕ
total_way_home w i [] = 0
total_way_home w i (t ∷ ts) = way_home w i t + total_way_home w (i + 1) ts

-- a row that says for each tile how far it is from home on the cell i, and rows that say so for each cell
abbrev pub MeasuredOn : ℕ → ℕ → List ℕ → Type 0
MeasuredOn w i row = (t : ℕ) → t < 16 → slice_index row t ≡ way_home w i t

abbrev pub Measured : ℕ → List (List ℕ) → Type 0
Measured w rows = (i : ℕ) → i < 16 → MeasuredOn w i (slice_index_or rows i [])
