-- A level's text written part by part. Assumes nothing.
use Rattle.std.proofs.Common.{◌≡◌, ℕ, zero, suc, ◌+◌, ◌*◌, ◌<◌, min, List, [], ◌∷◌, ◌++◌, map, length, take, drop, codes, decimal, sym, refl, ap, ◌∙◌, append_assoc, mul-add, add-one, arith}
use Rattle.std.proofs.lemmas.List.{take_at, drop_at, length-append}
use Rattle.text.specs.declared.pen.Pen.{Pen}
use Rattle.text.specs.Pens.{Writes}
use Rattle.text.proofs.Pens.{Leads, leads_start, leads_more, leads_as, leads_end}
use Rattle.text.specs.Lines.{join_lines}
use Rattle.text.specs.Forms.{size_line, closing}
use Rattle.pictures.specs.declared.cell.Cell.{Cell}
use Rattle.pictures.specs.declared.picture.Picture.{Picture}
use Rattle.pictures.specs.Cells.{symbol_of}
use Rattle.pictures.specs.Pictures.{Shape, shape}
use Rattle.pictures.proofs.Shapes.{length_cells}
use Rattle.atoms.specs.Level.{atoms_of}
use Rattle.atoms.specs.LevelText.Writing.{drawn_line, drawn_lines, picture_lines, level_text}

-- the brackets of a row's line
pub line_text : (kw : List ℕ) (xs : List Cell) → drawn_line kw xs ++ (10 ∷ []) ≡ (40 ∷ []) ++ (kw ++ ((32 ∷ []) ++ (map symbol_of xs ++ codes ")\n")))
line_text kw xs =
    ap (λ t. 40 ∷ t) (append_assoc kw (32 ∷ (map symbol_of xs ++ closing)) (10 ∷ []))
    ∙ ap (λ t. 40 ∷ (kw ++ (32 ∷ t))) (append_assoc (map symbol_of xs) closing (10 ∷ []))

-- Of a picture's lines, which begin at a, those of whole rows of these cells are still to be written at b.
pub record Owed (kw : List ℕ) (w : ℕ) (xs : List Cell) (whole : List ℕ) (a b : Pen) : Type 0 where
  pub rows : ℕ
  pub filled : length xs ≡ w * rows
  pub leads : Leads whole (join_lines (drawn_lines kw rows w xs)) a b

pub owed_start : (kw : List ℕ) (p : Picture) (w : ℕ) (xs : List Cell) (a : Pen) → w ≡ (shape p).width → xs ≡ (shape p).cells → Owed kw w xs (join_lines (picture_lines kw (shape p))) a a
owed_start kw p w xs a wide drawn = record {
  rows = (shape p).height;
  filled = ap length drawn ∙ length_cells p ∙ ap (λ n. n * (shape p).height) (sym wide);
  leads = leads_start (ap (λ n. join_lines (drawn_lines kw (shape p).height n (shape p).cells)) (sym wide) ∙ ap (λ ys. join_lines (drawn_lines kw (shape p).height w ys)) (sym drawn));
}

-- one row, x, is written
pub owed_more : {kw : List ℕ} {w : ℕ} {xs : List Cell} {whole : List ℕ} {a b c : Pen} (x ys : List Cell) → Owed kw w xs whole a b
    → xs ≡ x ++ ys → length x ≡ min w (length xs) → 0 < length xs → Writes (drawn_line kw x ++ (10 ∷ [])) b c → Owed kw w ys whole a c
owed_more {kw = kw} {w = w} {xs = xs} {whole = whole} {a = a} {b = b} {c = c} x ys owed cut long some wrote = by owed.rows owed.filled owed.leads
  where
    by : (rows : ℕ) → length xs ≡ w * rows → Leads whole (join_lines (drawn_lines kw rows w xs)) a b → Owed kw w ys whole a c
    by zero filled leads = absurd (omega (arith, filled))
    by (suc k) filled leads =
        let more : w * suc k ≡ w + w * k = ap (λ j. w * j) (sym (add-one k)) ∙ mul-add w k 1 ∙ omega arith in
        let row : length x ≡ w = omega arith in
        let here : take w xs ≡ x = ap (take w) cut ∙ take_at x ys w row in
        let rest : drop w xs ≡ ys = ap (drop w) cut ∙ drop_at x ys w row in
        let parts = ap length cut ∙ length-append x ys in
        record {
          rows = k;
          filled = omega arith;
          leads =
              leads_more (leads_as (ap (λ y. join_lines (drawn_line kw y ∷ drawn_lines kw k w (drop w xs))) here
              ∙ ap (λ zs. join_lines (drawn_line kw x ∷ drawn_lines kw k w zs)) rest
              ∙ sym (append_assoc (drawn_line kw x) (10 ∷ []) (join_lines (drawn_lines kw k w ys)))) leads) wrote;
        }

-- no row is left
pub owed_end : {kw : List ℕ} {w : ℕ} {xs : List Cell} {whole : List ℕ} {a b : Pen} → 0 < w → Owed kw w xs whole a b → length xs ≡ 0 → Writes whole a b
owed_end {kw = kw} {w = w} {xs = xs} {whole = whole} {a = a} {b = b} wide owed none = by owed.rows owed.filled owed.leads
  where
    by : (rows : ℕ) → length xs ≡ w * rows → Leads whole (join_lines (drawn_lines kw rows w xs)) a b → Writes whole a b
    by zero filled leads = leads_end leads
    by (suc k) filled leads = absurd (let more : w * suc k ≡ w + w * k = ap (λ j. w * j) (sym (add-one k)) ∙ mul-add w k 1 ∙ omega arith in omega arith)

-- lines after others
join_append : (ls ms : List (List ℕ)) → join_lines (ls ++ ms) ≡ join_lines ls ++ join_lines ms
join_append [] ms = refl
join_append (l ∷ ls) ms =
    ap (λ t. l ++ (10 ∷ t)) (join_append ls ms) ∙ sym (append_assoc l (10 ∷ join_lines ls) (join_lines ms))

-- the first line, the board, which is of width w and height h, the molecule, and the closing bracket
pub level_text_lem : (b m : Shape) (w h : ℕ) → w ≡ b.width → h ≡ b.height → level_text (atoms_of b m) ≡ codes "(" ++ (codes "atomix" ++ (codes " " ++ (decimal w ++ (codes " " ++ (decimal h ++ (codes "\n" ++ (join_lines (picture_lines (codes "row") b) ++ (join_lines (picture_lines (codes "want") m) ++ codes ")\n"))))))))
level_text_lem b m w h wide high =
    let board = picture_lines (codes "row") b in
    let molecule = picture_lines (codes "want") m in
    let lines = board ++ (molecule ++ (closing ∷ [])) in
    ap (λ k. join_lines (size_line (codes "atomix") k b.height ∷ lines)) (sym wide)
    ∙ ap (λ k. join_lines (size_line (codes "atomix") w k ∷ lines)) (sym high)
    ∙ ap (λ t. codes "(atomix " ++ t) (append_assoc (decimal w) (32 ∷ decimal h) (10 ∷ join_lines lines))
    ∙ ap (λ t. codes "(atomix " ++ (decimal w ++ (32 ∷ (decimal h ++ (10 ∷ t)))))
    (join_append board (molecule ++ (closing ∷ [])) ∙ ap (λ t. join_lines board ++ t) (join_append molecule (closing ∷ [])))
