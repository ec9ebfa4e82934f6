-- A level's text written part by part. Assumes nothing.
use Rattle.std.proofs.Common.{◌≡◌, ℕ, zero, suc, ◌+◌, ◌-◌, ◌*◌, ◌/◌, ◌%◌, ◌<◌, ◌≤◌, List, [], ◌∷◌, ◌++◌, drop, codes, decimal, sym, ap, ◌∙◌, append_assoc, mul-add, add-one, arith}
use Rattle.text.specs.Lines.{join_lines}
use Rattle.text.specs.Forms.{closing}
use Rattle.tiles.specs.Board.{first_cells}
use Rattle.tiles.specs.Level.{tiles_of}
use Rattle.tiles.proofs.Board.{take_first_cells}
use Rattle.tiles.specs.LevelText.Writing.{spaced_numbers, row_line, row_lines, level_text, cells_after}

-- nothing is left of n after n or more
rows_past : (n i : ℕ) → n ≤ i → n - i ≡ 0
rows_past n i h = omega arith

pub spaced_all : (w i p : ℕ) → w ≤ i → spaced_numbers (first_cells (w - i) p) ≡ []
spaced_all w i p h = ap (λ k. spaced_numbers (first_cells k p)) (rows_past w i h)

pub cells_after_all : (w i p : ℕ) → w ≤ i → p ≡ cells_after (w - i) p
cells_after_all w i p h = ap (λ k. cells_after k p) (sym (rows_past w i h))

-- one cell more of w, after the first i
module _ (w i p : ℕ) (h : i < w) where
  on : w - i ≡ suc (w - (i + 1))
  on = omega arith

  pub spaced_more : spaced_numbers (first_cells (w - i) p) ≡ (32 ∷ []) ++ (decimal (p % 16) ++ spaced_numbers (first_cells (w - (i + 1)) (p / 16)))
  spaced_more = ap (λ k. spaced_numbers (first_cells k p)) on

  pub cells_after_more : cells_after (w - (i + 1)) (p / 16) ≡ cells_after (w - i) p
  cells_after_more = ap (λ k. cells_after k p) (sym on)

drop_first_cells : (n m k p : ℕ) → k ≡ n + m → drop n (first_cells k p) ≡ first_cells m (cells_after n p)
drop_first_cells zero m k p e = let same : k ≡ m = omega arith in ap (λ j. first_cells j p) same
drop_first_cells (suc n) m zero p e = absurd (omega arith)
drop_first_cells (suc n) m (suc k) p e = drop_first_cells n m k (p / 16) (omega arith)

-- k rows of w tiles, and the closing line
abbrev pub rows_text : ℕ → ℕ → ℕ → List ℕ
rows_text k w p = join_lines (row_lines k w (first_cells (w * k) p) ++ (closing ∷ []))

-- one row more of h, after the first i
pub rows_more : (h w i p : ℕ) → i < h → rows_text (h - i) w p ≡ (row_line (first_cells w p) ++ (10 ∷ [])) ++ rows_text (h - (i + 1)) w (cells_after w p)
rows_more h w i p inside =
    let k = h - (i + 1) in
    let on : h - i ≡ suc k = omega arith in
    let more : w * suc k ≡ w + w * k = ap (λ j. w * j) (sym (add-one k)) ∙ mul-add w k 1 ∙ omega arith in
    let ts = first_cells (w * suc k) p in
    ap (λ j. rows_text j w p) on
    ∙ ap (λ us. join_lines (row_line us ∷ (row_lines k w (drop w ts) ++ (closing ∷ [])))) (take_first_cells w (w * suc k) p (omega arith))
    ∙ ap (λ us. join_lines (row_line (first_cells w p) ∷ (row_lines k w us ++ (closing ∷ [])))) (drop_first_cells w (w * k) (w * suc k) p more)
    ∙ sym (append_assoc (row_line (first_cells w p)) (10 ∷ []) (rows_text k w (cells_after w p)))

pub rows_all : (h w i p : ℕ) → h ≤ i → rows_text (h - i) w p ≡ codes ")\n"
rows_all h w i p past = ap (λ k. rows_text k w p) (rows_past h i past)

-- the first line, and then the rows
pub head_text : (w h p : ℕ) → level_text (tiles_of w h p) ≡ codes "(" ++ (codes "tiles" ++ (codes " " ++ (decimal w ++ (codes " " ++ (decimal h ++ (codes "\n" ++ rows_text h w p))))))
head_text w h p = ap (λ t. codes "(tiles " ++ t) (append_assoc (decimal w) (32 ∷ decimal h) (10 ∷ rows_text h w p))

-- the row's brackets
pub row_text : (ts : List ℕ) → row_line ts ++ (10 ∷ []) ≡ codes "(row" ++ (spaced_numbers ts ++ codes ")\n")
row_text ts = ap (λ t. codes "(row" ++ t) (append_assoc (spaced_numbers ts) closing (10 ∷ []))
