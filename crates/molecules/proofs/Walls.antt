-- A picture without walls stays so with a row in which no character draws a wall. Assumes nothing.
use Rattle.std.proofs.Common.{◌≡◌, ℕ, zero, suc, ◌+◌, Bool, true, false, cond, eqb, List, [], ◌∷◌, ◌++◌, get_or, Some, None, Option, sym, refl, subst, arith}
use Rattle.std.proofs.lemmas.Bool.{eqb-false, or_parts}
use Rattle.std.proofs.lemmas.Bool.Decides.{nat_tests}
use Rattle.pictures.specs.declared.cell.Cell.{Cell}
use Rattle.pictures.specs.declared.cell.Cell.TheVariants.{Wall, Free, Atom}
use Rattle.pictures.specs.Cells.{cell_of, cells_of}
use Rattle.pictures.specs.Pictures.{Shape, shape_of, with_row}
use Rattle.pictures.proofs.Drawn.{parts}
use Rattle.molecules.specs.Atoms.{is_wall, Unwalled, draws_wall}

-- no cell is a wall
abbrev Open : List Cell → Type 0
Open xs = (i : ℕ) → is_wall (get_or xs i Free) ≡ false

-- one cell more in front, and cells behind others
open_cons : (x : Cell) (xs : List Cell) → is_wall x ≡ false → Open xs → Open (x ∷ xs)
open_cons x xs e rest zero = e
open_cons x xs e rest (suc i) = rest i

open_append : (xs ys : List Cell) → Open xs → Open ys → Open (xs ++ ys)
open_append [] ys first rest = rest
open_append (x ∷ xs) ys first rest = open_cons x (xs ++ ys) (first 0) (open_append xs ys (λ i. first (suc i)) rest)

-- only `#` draws a wall
wall_drawn : (c : ℕ) → cell_of c ≡ Some Wall → c ≡ 35
wall_drawn c e = grind (arith, nat_tests)

open_cell : (c : ℕ) (x : Cell) → cell_of c ≡ Some x → eqb c 35 ≡ false → is_wall x ≡ false
open_cell c Wall e other = absurd (eqb-false c 35 other (wall_drawn c e))
open_cell c Free e other = refl
open_cell c (Atom label) e other = refl

-- so a row without it has no wall
open_row : (row : List ℕ) (xs : List Cell) → cells_of row ≡ Some xs → draws_wall row ≡ false → Open xs
open_row [] xs e none = let same : [] ≡ xs = cc in subst Open same (λ i. refl)
open_row (c ∷ cs) xs e none =
    let p = parts (cell_of c) (cells_of cs) xs e in
    let n = or_parts (eqb c 35) (draws_wall cs) none in
    subst Open p.4 (open_cons p.0 p.1 (open_cell c p.0 p.2 n.0) (open_row cs p.1 p.3 n.1))

-- the cells of a picture with one row more
longer : (s t : Shape) (b : Bool) (o : Option (List Cell)) → ◌≡◌ {A = Option Shape} (cond b (elim o [ Some xs ↦ Some (shape_of s.width (s.height + 1) (s.cells ++ xs)) | None ↦ None ]) None) (Some t) → (xs : List Cell) × (o ≡ Some xs) × (s.cells ++ xs ≡ t.cells)
longer s t true (Some xs) e = (xs, refl, cc)
longer s t true None e = cc
longer s t false o e = cc

-- they are no walls
pub unwalled_row : (s t : Shape) (row : List ℕ) → Unwalled s → draws_wall row ≡ false → Some t ≡ with_row s row → Unwalled t
unwalled_row s t row before none e =
    let p = longer s t _ (cells_of row) (sym e) in
    subst Open p.2 (open_append s.cells p.0 before (open_row row p.0 p.1 none))
