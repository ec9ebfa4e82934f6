-- Pictures that are drawn row by row. Assumes nothing.
use Rattle.std.proofs.Common.{◌≡◌, ℕ, zero, suc, ◌+◌, ◌<◌, ◌≤◌, Bool, true, false, cond, ◌&&◌, eqb, ltb, List, [], ◌∷◌, ◌++◌, map, length, get_or, take, drop, Some, None, Option, sym, refl, ap, ◌∙◌, mul-add, arith}
use Rattle.std.proofs.lemmas.List.{get_or-drop, length-append, length-map}
use Rattle.std.proofs.lemmas.Bool.{and_parts, cond-false, eqb-true, ltb-true, or_from}
use Rattle.std.proofs.lemmas.Bool.Decides.{nat_tests}
use Rattle.text.proofs.Cases.{never}
use Rattle.text.specs.Forms.{content_line}
use Rattle.pictures.specs.declared.cell.Cell.{Cell}
use Rattle.pictures.specs.declared.cell.Cell.TheVariants.{Wall, Free, Atom}
use Rattle.pictures.specs.Cells.{symbol_of, cells_of, lettered, Lettered}
use Rattle.pictures.specs.Pictures.{Shape, shape_of, with_row}
use Rattle.pictures.proofs.Drawn.{cells_of_symbols, symbols_of_cells, lettered_append}
use Rattle.pictures.proofs.Rows.{behind, framed, with_row_lem}
use Rattle.molecules.specs.Atoms.{is_wall, Unwalled, draws_wall, with_want}
use Rattle.molecules.proofs.Walls.{unwalled_row}
use Rattle.atoms.specs.laws.Levels.{Framed}
use Rattle.atoms.specs.LevelText.Writing.{drawn_line}

-- a picture with a row of these cells more
abbrev pub with_drawn_row : Shape → List Cell → Shape
with_drawn_row s xs = shape_of s.width (s.height + 1) (s.cells ++ xs)

-- a line that makes t of s
pub record Adds (kw : List ℕ) (s : Shape) (l : List ℕ) (t : Shape) : Type 0 where
  pub cells : List Cell
  pub line : l ≡ drawn_line kw cells
  pub wide : length cells ≡ s.width
  pub room : s.height < 16
  pub lettered : Lettered cells
  pub is : t ≡ with_drawn_row s cells

-- where a row is taken, the line draws its cells
pub row_adds : (kw : List ℕ) (s : Shape) (l x : List ℕ) (t : Shape) → l ≡ content_line kw x → with_row s x ≡ Some t → Adds kw s l t
row_adds kw s l x t spelled e = by _ refl (cells_of x) refl e
  where
    by : (b : Bool) → eqb (length x) s.width && ltb s.height 16 ≡ b → (o : Option (List Cell)) → cells_of x ≡ o → ◌≡◌ {A = Option Shape} (cond b (elim o [ Some xs ↦ Some (with_drawn_row s xs) | None ↦ None ]) None) (Some t) → Adds kw s l t
    by true p (Some xs) q e =
        let same : t ≡ with_drawn_row s xs = cc in
        let fits = and_parts _ _ p in
        let drawn = symbols_of_cells x xs q in
        record {
          cells = xs;
          line = spelled ∙ ap (content_line kw) (sym drawn.0);
          wide = drawn.1 ∙ eqb-true _ _ fits.0;
          room = ltb-true _ _ fits.1;
          lettered = drawn.2;
          is = same;
        }
    by true p None q e = absurd (never t e)
    by false p o q e = absurd (never t e)

-- a row of a molecule adds no wall
pub want_adds : (kw : List ℕ) (m : Shape) (l x : List ℕ) (t : Shape) → l ≡ content_line kw x → with_want m x ≡ Some t → Adds kw m l t × (Unwalled m → Unwalled t)
want_adds kw m l x t spelled e = by (draws_wall x) refl e
  where
    by : (b : Bool) → draws_wall x ≡ b → cond b None (with_row m x) ≡ Some t → Adds kw m l t × (Unwalled m → Unwalled t)
    by true p e = absurd (never t e)
    by false p e = (row_adds kw m l x t spelled e, λ before. unwalled_row m t x before p (sym e))

-- lettered cells that are as wide as the picture are taken
pub row_taken : (s : Shape) (xs : List Cell) → length xs ≡ s.width → s.height < 16 → Lettered xs → with_row s (map symbol_of xs) ≡ Some (with_drawn_row s xs)
row_taken s xs wide room lettered =
    with_row_lem s (map symbol_of xs) (length-map xs symbol_of ∙ wide) room
    ∙ ap (λ o. framed s.width (s.height + 1) (behind s.cells o)) (cells_of_symbols xs lettered)

-- no cell is a wall
abbrev pub Open : List Cell → Type 0
Open xs = (i : ℕ) → is_wall (get_or xs i Free) ≡ false

no_wall : (x : Cell) → lettered x ≡ true → is_wall x ≡ false → eqb (symbol_of x) 35 ≡ false
no_wall Wall letter free = absurd (let z : ◌≡◌ {A = ℕ} 0 1 = cc in omega arith)
no_wall Free letter free = refl
no_wall (Atom label) letter free = other label letter
  where
    other : (k : ℕ) → lettered (Atom k) ≡ true → eqb k 35 ≡ false
    other k letter = grind (arith, nat_tests)

no_walls : (xs : List Cell) → Lettered xs → Open xs → draws_wall (map symbol_of xs) ≡ false
no_walls [] letters free = refl
no_walls (x ∷ xs) letters free =
    or_from _ _ (no_wall x (letters 0) (free 0)) (no_walls xs (λ i. letters (suc i)) (λ i. free (suc i)))

-- and by a molecule, if none is a wall
pub want_taken : (m : Shape) (xs : List Cell) → length xs ≡ m.width → m.height < 16 → Lettered xs → Open xs → with_want m (map symbol_of xs) ≡ Some (with_drawn_row m xs)
want_taken m xs wide room lettered free =
    cond-false (draws_wall (map symbol_of xs)) _ _ (no_walls xs lettered free) ∙ row_taken m xs wide room lettered

pub open_take : (n : ℕ) (xs : List Cell) → Open xs → Open (take n xs)
open_take zero xs free i = refl
open_take (suc n) [] free i = refl
open_take (suc n) (x ∷ xs) free zero = free 0
open_take (suc n) (x ∷ xs) free (suc i) = open_take n xs (λ k. free (suc k)) i

pub open_drop : (n : ℕ) (xs : List Cell) → Open xs → Open (drop n xs)
open_drop n xs free i = ap is_wall (get_or-drop n xs i Free) ∙ free (n + i)

-- a picture with no row yet
pub framed_blank : (w : ℕ) → (1 ≤ w) × (w ≤ 16) → Framed (shape_of w 0 [])
framed_blank w wide = record { wide = wide; high = omega arith; whole = omega arith; lettered = λ i. refl }

-- a row more
pub framed_drawn_row : (s : Shape) (xs : List Cell) → Framed s → length xs ≡ s.width → s.height < 16 → Lettered xs → Framed (with_drawn_row s xs)
framed_drawn_row s xs p wide room lettered = record {
  wide = p.wide;
  high = omega arith;
  whole = length-append s.cells xs ∙ omega (arith, p.whole, mul-add s.width s.height 1);
  lettered = lettered_append s.cells xs p.lettered lettered;
}
