-- The atoms of a board by number: their labels and their cells. Assumes nothing.
use Rattle.std.proofs.Common.{◌≡◌, ℕ, suc, ◌+◌, ◌-◌, ◌<◌, ◌≤◌, Bool, List, [], ◌∷◌, ◌++◌, map, length, get_or, take, set, replicate, filter, sym, refl, ap, ◌∙◌, subst, zero-add, append_assoc, arith, length-take-le}
use Rattle.std.specs.List.{range_with_len, filter_map, enumerate_from}
use Rattle.std.proofs.Math.Seq.{take-append_seam}
use Rattle.std.proofs.lemmas.List.FromFn.{fill_by_all, length-enumerate_from, get_or-enumerate_from}
use Rattle.std.proofs.lemmas.List.{length-map, length_push, set_at, take_more, take_all, get_or-map, get_or_default}
use Rattle.std.proofs.lemmas.Simd.{map-map}
use Rattle.pictures.specs.declared.cell.Cell.{Cell}
use Rattle.pictures.specs.declared.cell.Cell.TheVariants.{Wall, Free, Atom}
use Rattle.pictures.specs.Cells.{label_in}
use Rattle.pictures.specs.Pictures.{Shape, cell_at}
use Rattle.molecules.specs.Atoms.{is_atom, atom_count}
use Rattle.atoms.specs.Board.{atom_cells, label_of, labels_of, array_of}
use Rattle.atoms.specs.laws.Starting.{filter-map, atoms_among, length_atoms}

-- the labels on some cells are those of the atoms among them
labels_among : (xs : List Cell) → filter_map label_in xs ≡ map label_of (filter is_atom xs)
labels_among [] = refl
labels_among (Wall ∷ xs) = labels_among xs
labels_among (Free ∷ xs) = labels_among xs
labels_among (Atom label ∷ xs) = ap (λ l. label ∷ l) (labels_among xs)

-- the turn of a loop that has number n gives the next of a list
abbrev pub Next : List ℕ → ℕ → ℕ → ℕ → Type 0
Next xs n number x = (n < length xs) × (number ≡ n) × (x ≡ get_or xs n x)

-- the item of a turn that is counted
counted_turn : {X : Type 0} (all : List X) (n : ℕ) (p : ℕ × X) → (n < length (enumerate_from 0 all)) × (p ≡ get_or (enumerate_from 0 all) n p) → (n < length all) × (p.0 ≡ n) × (p.1 ≡ get_or all n p.1)
counted_turn {X = X} all n p turn =
    let inside : n < length all = omega (arith, turn.0, length-enumerate_from 0 all) in
    let at = turn.1 ∙ get_or-enumerate_from 0 all n p inside in
    (inside, ap (λ (q : ℕ × X). q.0) at ∙ zero-add n, ap (λ (q : ℕ × X). q.1) at)

-- whether the cell with a number is an atom's
abbrev pub on_atom : ℕ × Cell → Bool
on_atom p = is_atom p.1

module _ (b : Shape) where
  -- there are as many labels as atoms
  pub length_labels : length (labels_of b) ≡ atom_count b
  length_labels = length-map (atom_cells b) (λ i. label_of (cell_at b i)) ∙ length_atoms b

  -- the labels, cell by cell
  labels_called : filter_map label_in b.cells ≡ labels_of b
  labels_called = labels_among b.cells ∙ ap (map label_of) (atoms_among b) ∙ map-map label_of (cell_at b) (atom_cells b)

  abbrev Labels : List (ℕ × ℕ)
  Labels = enumerate_from 0 (filter_map label_in b.cells)

  pub label_turn : (n : ℕ) (p : ℕ × ℕ) → (n < length Labels) × (p ≡ get_or Labels n p) → Next (labels_of b) n p.0 p.1
  label_turn n p turn = subst (λ xs. Next xs n p.0 p.1) labels_called (counted_turn _ n p turn)

  pub label_end : (n : ℕ) → n ≡ length Labels → length (labels_of b) ≤ n
  label_end n all = omega (arith, length-enumerate_from 0 (filter_map label_in b.cells), ap length labels_called)

  -- the cells with atoms, each with its number
  abbrev numbered : ℕ → ℕ × Cell
  numbered k = (k, cell_at b k)

  cells_called : filter on_atom (enumerate_from 0 b.cells) ≡ map numbered (atom_cells b)
  cells_called =
      ap (filter on_atom)
      (fill_by_all numbered (enumerate_from 0 b.cells) _ (0, Wall) (length-enumerate_from 0 b.cells) (λ k h. get_or-enumerate_from 0 b.cells k (0, Wall) h ∙ ap (λ j. (j, cell_at b k)) (zero-add k)))
      ∙ filter-map on_atom numbered (range_with_len 0 (length b.cells))

  abbrev Cells : List (ℕ × (ℕ × Cell))
  Cells = enumerate_from 0 (filter on_atom (enumerate_from 0 b.cells))

  pub cell_turn : (n : ℕ) (p : ℕ × (ℕ × Cell)) → (n < length Cells) × (p ≡ get_or Cells n p) → Next (atom_cells b) n p.0 p.1.0
  cell_turn n p turn =
      let at = counted_turn _ n p turn in
      let inside : n < length (atom_cells b) = omega (arith, at.0, ap length cells_called, length-map (atom_cells b) numbered) in
      let here = at.2 ∙ ap (λ xs. get_or xs n p.1) cells_called ∙ get_or-map numbered (atom_cells b) n p.1.0 p.1 inside in
      (inside, at.1, ap (λ (q : ℕ × Cell). q.0) here)

  pub cell_end : (n : ℕ) → n ≡ length Cells → length (atom_cells b) ≤ n
  cell_end n all =
      omega (arith, length-enumerate_from 0 (filter on_atom (enumerate_from 0 b.cells)), ap length cells_called, length-map (atom_cells b) numbered)

-- one more goes behind the others in an array of sixteen
set_filled : (xs : List ℕ) (x : ℕ) → length xs < 16 → set (array_of xs) (length xs) x ≡ array_of (xs ++ (x ∷ []))
set_filled xs x room =
    let here : 16 - length xs ≡ suc (16 - (length xs + 1)) = omega arith in
    ap (λ n. set (xs ++ replicate n 0) (length xs) x) here
    ∙ set_at xs 0 (replicate (16 - (length xs + 1)) 0) x (length xs) refl
    ∙ sym (append_assoc xs (x ∷ []) _)
    ∙ ap (λ n. (xs ++ (x ∷ [])) ++ replicate (16 - n) 0) (sym (length_push xs x))

-- the first n of a list are filled in, and the next one goes behind them
fill_more : (xs : List ℕ) (n x : ℕ) → length xs ≤ 16 → n < length xs → x ≡ get_or xs n 0 → set (array_of (take n xs)) n x ≡ array_of (take (n + 1) xs)
fill_more xs n x few h e =
    let long : length (take n xs) ≡ n = length-take-le n xs (omega arith) in
    ap (λ k. set (array_of (take n xs)) k x) (sym long)
    ∙ set_filled (take n xs) x (omega arith)
    ∙ ap (λ y. array_of (take n xs ++ (y ∷ []))) e
    ∙ ap array_of (sym (take_more xs n 0 h))

-- the same in a turn
pub fill_turn : (xs : List ℕ) (n number x : ℕ) (old : List ℕ) → length xs ≤ 16 → old ≡ array_of (take n xs) → Next xs n number x → set old number x ≡ array_of (take (n + 1) xs)
fill_turn xs n number x old few before next =
    ap (λ l. set l number x) before ∙ ap (λ k. set (array_of (take n xs)) k x) next.1
    ∙ fill_more xs n x few next.0 (next.2 ∙ get_or_default xs n x 0 next.0)

-- all are filled in
pub fill_end : (xs : List ℕ) (n : ℕ) (old : List ℕ) → old ≡ array_of (take n xs) → length xs ≤ n → old ≡ array_of xs
fill_end xs n old before all = before ∙ ap array_of (take_all n xs all)

-- the labels are at the front of the list that they are filled into
pub labels_filled : (b : Shape) (atoms : ℕ) (labels : List ℕ) → atoms ≡ atom_count b → labels ≡ array_of (labels_of b) → take atoms labels ≡ labels_of b
labels_filled b atoms labels counted all =
    ap (take atoms) all ∙ ap (λ n. take n (array_of (labels_of b))) (counted ∙ sym (length_labels b)) ∙ take-append_seam (labels_of b) _
