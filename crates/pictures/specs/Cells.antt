-- Cells, and the characters that draw them. Assumes nothing.
use Rattle.std.specs.Prelude.{◌≡◌, ℕ, Bool, true, cond, ◌&&◌, List, [], ◌∷◌, Some, None, Option, Result, MatchResult, ◌==◌, nat_le, slice_index_or}
use Rattle.pictures.specs.declared.cell.Cell.{Cell}
use Rattle.pictures.specs.declared.cell.UnknownSymbol.{UnknownSymbol}
use Rattle.pictures.specs.declared.cell.Cell.TheVariants.{Wall, Free, Atom}

-- the label of the atom on a cell
abbrev pub label_in : Cell → Option ℕ
label_in Wall = None
label_in Free = None
label_in (Atom x) = Some x

-- the character that draws a cell
abbrev pub symbol_of : Cell → ℕ
symbol_of Wall = 35
symbol_of Free = 46
symbol_of (Atom label) = label

-- the cell that a character draws: `#`, `.`, or a letter A to Z
abbrev pub cell_of : ℕ → Option Cell
cell_of c =
    cond (c == 35) (Some Wall)
    (cond (c == 46) (Some Free) (cond (nat_le 65 c && nat_le c 90) (Some (Atom c)) None))

-- the result is the cell that a character draws, or an error with the character where it draws none
abbrev pub Draws : ℕ → Result Cell UnknownSymbol → Type 0
Draws c r = MatchResult r (λ cell. cell_of c ≡ Some cell) (λ e. (e.0 ≡ c) × (cell_of c ≡ None))

-- the cells that characters draw, if each draws one
abbrev pub cells_of : List ℕ → Option (List Cell)
cells_of [] = Some []
cells_of (c ∷ cs) =
    elim (cell_of c) [
      | Some x ↦ elim (cells_of cs) [ Some xs ↦ Some (x ∷ xs) | None ↦ None ]
      | None ↦ None
    ]

-- a label is a letter
abbrev pub lettered : Cell → Bool
lettered Wall = true
lettered Free = true
lettered (Atom label) = nat_le 65 label && nat_le label 90

-- the labels of all cells are letters
abbrev pub Lettered : List Cell → Type 0
Lettered xs = (i : ℕ) → lettered (slice_index_or xs i Wall) ≡ true

-- a character draws a cell with a letter as label, and is the one that draws it
abbrev pub DrawsOne : ℕ → Type 0
DrawsOne c = (x : Cell) → cell_of c ≡ Some x → (lettered x ≡ true) × (symbol_of x ≡ c)

-- the character of a cell draws that cell
abbrev pub SymbolDrawsBack : Cell → Type 0
SymbolDrawsBack x = lettered x ≡ true → cell_of (symbol_of x) ≡ Some x
