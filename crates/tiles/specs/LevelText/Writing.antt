-- A tile level as text. Assumes nothing.
use Rattle.std.specs.Prelude.{ℕ, zero, suc, ◌*◌, ◌/◌, List, [], ◌∷◌, ◌++◌, take, drop, codes, decimal}
use Rattle.text.specs.Lines.{join_lines}
use Rattle.text.specs.Forms.{size_line, arguments_line, closing}
use Rattle.tiles.specs.Board.{first_cells}
use Rattle.tiles.specs.Level.{Tiles}

-- numbers, each with a blank before it
abbrev pub spaced_numbers : List ℕ → List ℕ
spaced_numbers [] = []
spaced_numbers (t ∷ ts) = 32 ∷ (decimal t ++ spaced_numbers ts)

-- `(row T T T)`
abbrev pub row_line : List ℕ → List ℕ
row_line ts = arguments_line (codes "row") (spaced_numbers ts)

-- h rows of w tiles each
abbrev pub row_lines : ℕ → ℕ → List ℕ → List (List ℕ)
row_lines zero w ts = []
row_lines (suc h) w ts = row_line (take w ts) ∷ row_lines h w (drop w ts)

-- `(tiles W H`, a line for each row, and `)`
abbrev pub level_text : Tiles → List ℕ
level_text l =
    join_lines
    (size_line (codes "tiles") l.width l.height
    ∷ (row_lines l.height l.width (first_cells (l.width * l.height) l.start) ++ (closing ∷ [])))

-- a position without its first n cells
abbrev pub cells_after : ℕ → ℕ → ℕ
cells_after zero p = p
cells_after (suc n) p = cells_after n (p / 16)
