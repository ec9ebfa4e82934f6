-- The lines of a level are short lines of printed characters. Assumes nothing.
use Rattle.std.proofs.Common.{◌≡◌, ℕ, zero, suc, ◌<◌, ◌≤◌, List, ◌∷◌, ◌++◌, map, length, take, drop, codes, refl, ap, arith}
use Rattle.std.specs.List.{All}
use Rattle.std.proofs.lemmas.List.Elements.{All-nil, All-cons, All-append}
use Rattle.std.proofs.lemmas.List.{length-append, length-map, length-take}
use Rattle.text.proofs.Texts.{Printed, blank_printed, printed_by, Short, short_size}
use Rattle.text.specs.Forms.{closing}
use Rattle.pictures.specs.declared.cell.Cell.{Cell}
use Rattle.pictures.specs.Cells.{symbol_of, Lettered}
use Rattle.pictures.proofs.Drawn.{symbol_printed, lettered_take, lettered_drop}
use Rattle.atoms.specs.LevelText.Writing.{drawn_line, drawn_lines}
use Rattle.atoms.proofs.LevelText.Forms.{head_line}
use Rattle.atoms.proofs.LevelText.Taking.{each_symbol}

pub short_head : (w h : ℕ) → w < 100 → h < 100 → Short (head_line w h)
short_head w h = short_size (codes "atomix") w h (printed_by (codes "atomix") refl) (omega arith)

-- the rows of a picture, by their keyword
module _ (kw : List ℕ) (printed : All Printed kw) (brief : length kw ≤ 4) where
  short_row : (xs : List Cell) → length xs ≤ 16 → Lettered xs → Short (drawn_line kw xs)
  short_row xs most letters =
      let x = map symbol_of xs in
      let line = All-append Printed x closing (each_symbol Printed symbol_printed xs letters) (printed_by closing refl) in
      record {
        printed =
            All-cons Printed 40 (kw ++ ((32 ∷ x) ++ closing)) (omega arith, omega arith)
            (All-append Printed kw ((32 ∷ x) ++ closing) printed (All-cons Printed 32 (x ++ closing) blank_printed line));
        short = omega (arith, length-append kw ((32 ∷ x) ++ closing), length-append x closing, length-map xs symbol_of);
      }

  pub short_rows : (k w : ℕ) (xs : List Cell) → w ≤ 16 → Lettered xs → All Short (drawn_lines kw k w xs)
  short_rows zero w xs most letters = All-nil Short
  short_rows (suc k) w xs most letters =
      All-cons Short (drawn_line kw (take w xs)) (drawn_lines kw k w (drop w xs)) (short_row (take w xs) (omega (arith, length-take w xs)) (lettered_take w xs letters))
      (short_rows k w (drop w xs) most (lettered_drop w xs letters))

-- there is one for each row
pub length_rows : (kw : List ℕ) (k w : ℕ) (xs : List Cell) → length (drawn_lines kw k w xs) ≡ k
length_rows kw zero w xs = refl
length_rows kw (suc k) w xs = ap suc (length_rows kw k w (drop w xs))
