-- A row is drawn behind the cells of a picture. Assumes nothing.
use Rattle.std.proofs.Common.{◌≡◌, ℕ, ◌+◌, ◌*◌, ◌<◌, ◌≤◌, List, [], ◌∷◌, ◌++◌, length, get_or, take, drop, set, Some, None, Option, sym, refl, ap, ◌∙◌, subst, append_assoc, append-nil, mul-add, arith}
use Rattle.std.proofs.lemmas.Nat.{mul-le}
use Rattle.std.proofs.lemmas.List.{at_drop_more, at_drop_all, take_more_set}
use Rattle.std.proofs.lemmas.Bool.{and_from, cond-true, eq-eqb, lt-ltb}
use Rattle.pictures.specs.declared.cell.Cell.{Cell}
use Rattle.pictures.specs.Cells.{cell_of, cells_of, Lettered}
use Rattle.pictures.specs.Pictures.{Shape, shape_of, with_row}
use Rattle.pictures.proofs.Drawn.{onto, before, lettered_append, symbols_of_cells}

-- drawn cells behind others
abbrev pub behind : List Cell → Option (List Cell) → Option (List Cell)
behind done o = elim o [ Some xs ↦ Some (done ++ xs) | None ↦ None ]

-- the first of them is the last of the others
push : (done : List Cell) (x : Cell) (o : Option (List Cell)) → behind done (onto x o) ≡ behind (done ++ (x ∷ [])) o
push done x (Some xs) = ap Some (sym (append_assoc done (x ∷ []) xs))
push done x None = refl

-- one character on, by what it draws
step : (done : List Cell) (row : List ℕ) (i : ℕ) (o : Option Cell) → i < length row → o ≡ cell_of (get_or row i 0) → behind done (cells_of (drop i row)) ≡ behind done (before o (cells_of (drop (i + 1) row)))
step done row i o h e =
    at_drop_more (λ cs. behind done (cells_of cs)) row i 0 h
    ∙ ap (λ x. behind done (before x (cells_of (drop (i + 1) row)))) (sym e)

-- the cell that a character draws comes behind those before it
pub row_more : (cells : List Cell) (row : List ℕ) (first i : ℕ) (x : Cell) → first + i < length cells → i < length row → Some x ≡ cell_of (get_or row i 0) → behind (take (first + (i + 1)) (set cells (first + i) x)) (cells_of (drop (i + 1) row)) ≡ behind (take (first + i) cells) (cells_of (drop i row))
row_more cells row first i x room h e =
    let on : first + (i + 1) ≡ first + i + 1 = omega arith in
    let rest = cells_of (drop (i + 1) row) in
    ap (λ n. behind (take n (set cells (first + i) x)) rest) on
    ∙ ap (λ done. behind done rest) (take_more_set cells (first + i) x room)
    ∙ sym (step _ row i (Some x) h e ∙ push (take (first + i) cells) x rest)

-- where a character draws no cell there is no row
pub row_none : (done : List Cell) (row : List ℕ) (i : ℕ) → i < length row → None ≡ cell_of (get_or row i 0) → behind done (cells_of (drop i row)) ≡ None
row_none done row i h e = step done row i None h e

-- at the end of the row there is a row more
pub row_all : (cells : List Cell) (row : List ℕ) (w h i : ℕ) → length row ≡ w → i ≡ w → Some (take (w * (h + 1)) cells) ≡ behind (take (w * h + i) cells) (cells_of (drop i row))
row_all cells row w h i wide all =
    let counts : w * (h + 1) ≡ w * h + i = omega (arith, mul-add w h 1) in
    let done = take (w * h + i) cells in
    ap (λ n. Some (take n cells)) counts
    ∙ sym (at_drop_all (λ cs. behind done (cells_of cs)) row i (omega arith) ∙ ap Some (append-nil done))

-- a cell of the next row is below 256
pub row_fits : (w h i : ℕ) → w ≤ 16 → h < 16 → i < w → w * h + i < 256
row_fits w h i wide high inside = omega (arith, mul-le w (h + 1) 16 16 wide (omega arith), mul-add w h 1)

-- lettered cells stay so with drawn ones behind them
behind_lettered : (xs ys : List Cell) (row : List ℕ) → Lettered xs → (o : Option (List Cell)) → cells_of row ≡ o → behind xs o ≡ Some ys → Lettered ys
behind_lettered xs ys row ls (Some zs) q e =
    let same : xs ++ zs ≡ ys = cc in
    subst Lettered same (lettered_append xs zs ls (symbols_of_cells row zs q).2)
behind_lettered xs ys row ls None q e = cc

-- a row more leaves the cells lettered
pub row_lettered : (xs ys : List Cell) (row : List ℕ) → Lettered xs → Some ys ≡ behind xs (cells_of row) → Lettered ys
row_lettered xs ys row ls e = behind_lettered xs ys row ls (cells_of row) refl (sym e)

-- cells in a frame
abbrev pub framed : ℕ → ℕ → Option (List Cell) → Option Shape
framed w h o = elim o [ Some xs ↦ Some (shape_of w h xs) | None ↦ None ]

-- a frame is put around all at once
framed_behind : (w h : ℕ) (done : List Cell) (o : Option (List Cell)) → ◌≡◌ {A = Option Shape} (elim o [ Some xs ↦ Some (shape_of w h (done ++ xs)) | None ↦ None ]) (framed w h (behind done o))
framed_behind w h done (Some xs) = refl
framed_behind w h done None = refl

-- where the row is as wide and there is room for it, its cells follow those of the picture
pub with_row_lem : (s : Shape) (row : List ℕ) → length row ≡ s.width → s.height < 16 → with_row s row ≡ framed s.width (s.height + 1) (behind s.cells (cells_of row))
with_row_lem s row wide room =
    cond-true _ _ _ (and_from _ _ (eq-eqb _ _ wide) (lt-ltb _ _ room)) ∙ framed_behind _ _ _ (cells_of row)
