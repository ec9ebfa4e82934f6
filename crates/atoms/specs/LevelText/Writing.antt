-- An atom level as text. Assumes nothing.
use Rattle.std.specs.Prelude.{ℕ, zero, suc, List, [], ◌∷◌, ◌++◌, map, take, drop, codes}
use Rattle.text.specs.Lines.{join_lines}
use Rattle.text.specs.Forms.{size_line, content_line, closing}
use Rattle.pictures.specs.declared.cell.Cell.{Cell}
use Rattle.pictures.specs.Cells.{symbol_of}
use Rattle.pictures.specs.Pictures.{Shape}
use Rattle.atoms.specs.Level.{Atoms}

-- `(KEYWORD X)`, where X draws these cells
abbrev pub drawn_line : List ℕ → List Cell → List ℕ
drawn_line kw xs = content_line kw (map symbol_of xs)

-- h rows of w cells each
abbrev pub drawn_lines : List ℕ → ℕ → ℕ → List Cell → List (List ℕ)
drawn_lines kw zero w xs = []
drawn_lines kw (suc h) w xs = drawn_line kw (take w xs) ∷ drawn_lines kw h w (drop w xs)

-- a line for each row
abbrev pub picture_lines : List ℕ → Shape → List (List ℕ)
picture_lines kw s = drawn_lines kw s.height s.width s.cells

-- `(atomix W H`, the rows of the board, the rows of the molecule, and `)`
abbrev pub level_text : Atoms → List ℕ
level_text l =
    join_lines
    (size_line (codes "atomix") l.board.width l.board.height
    ∷ (picture_lines (codes "row") l.board ++ (picture_lines (codes "want") l.molecule ++ (closing ∷ []))))
