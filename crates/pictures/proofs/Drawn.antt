-- The characters that draw cells, and the cells that they draw. Assumes nothing.
use Rattle.std.proofs.Common.{◌≡◌, ℕ, zero, suc, ◌+◌, ◌≤◌, true, List, [], ◌∷◌, ◌++◌, map, length, take, drop, Some, None, Ok, Err, Option, Result, sym, refl, ap, ◌∙◌, subst, arith}
use Rattle.std.specs.Result.{result_ok}
use Rattle.std.proofs.lemmas.List.{get_or-drop}
use Rattle.std.proofs.lemmas.Bool.Decides.{nat_tests}
use Rattle.pictures.specs.declared.cell.Cell.{Cell}
use Rattle.pictures.specs.declared.cell.Cell.TheVariants.{Wall, Free, Atom}
use Rattle.pictures.specs.declared.cell.UnknownSymbol.{UnknownSymbol}
use Rattle.pictures.specs.Cells.{symbol_of, cell_of, cells_of, lettered, Lettered, Draws, DrawsOne, SymbolDrawsBack}

-- a character draws a lettered cell, and is the one that draws it
pub draws_one : (c : ℕ) → DrawsOne c
draws_one c Wall e = (refl, grind (arith, nat_tests))
draws_one c Free e = (refl, grind (arith, nat_tests))
draws_one c (Atom label) e = (grind (arith, nat_tests), grind (arith, nat_tests))

-- what a character draws, without the error
pub drawn : (c : ℕ) (o : Option Cell) (r : Result Cell UnknownSymbol) → Draws c r → o ≡ result_ok r → o ≡ cell_of c
drawn c o (Ok x) d e = e ∙ sym d
drawn c o (Err u) d e = e ∙ sym d.1

-- a letter draws its atom
atom_drawn : (c : ℕ) → lettered (Atom c) ≡ true → cell_of c ≡ Some (Atom c)
atom_drawn c l = grind (arith, nat_tests)

-- the character of a lettered cell draws that cell
pub drawn_back : (x : Cell) → SymbolDrawsBack x
drawn_back Wall l = refl
drawn_back Free l = refl
drawn_back (Atom label) l = atom_drawn label l

-- a letter is A to Z
letter : (c : ℕ) → lettered (Atom c) ≡ true → (65 ≤ c) × (c ≤ 90)
letter c l = (grind (arith, nat_tests), grind (arith, nat_tests))

-- the character of a lettered cell is printable
pub symbol_printed : (x : Cell) → lettered x ≡ true → (32 ≤ symbol_of x) × (symbol_of x ≤ 126)
symbol_printed Wall l = (omega arith, omega arith)
symbol_printed Free l = (omega arith, omega arith)
symbol_printed (Atom label) l = let h = letter label l in (omega arith, omega arith)

-- it is no bracket
pub symbol_no_bracket : (x : Cell) → lettered x ≡ true → (symbol_of x ≡ 40 → ⊥) × (symbol_of x ≡ 41 → ⊥)
symbol_no_bracket Wall l = (λ e. omega arith, λ e. omega arith)
symbol_no_bracket Free l = (λ e. omega arith, λ e. omega arith)
symbol_no_bracket (Atom label) l = let h = letter label l in (λ e. omega arith, λ e. omega arith)

-- where there is no cell all are lettered
lettered_nil : Lettered []
lettered_nil i = refl

-- one lettered cell more in front
lettered_cons : (x : Cell) (xs : List Cell) → lettered x ≡ true → Lettered xs → Lettered (x ∷ xs)
lettered_cons x xs l ls zero = l
lettered_cons x xs l ls (suc i) = ls i

-- the cells after a first one
lettered_rest : (x : Cell) (xs : List Cell) → Lettered (x ∷ xs) → Lettered xs
lettered_rest x xs ls i = ls (suc i)

-- cells behind others
pub lettered_append : (xs ys : List Cell) → Lettered xs → Lettered ys → Lettered (xs ++ ys)
lettered_append [] ys ls ks = ks
lettered_append (x ∷ xs) ys ls ks =
    lettered_cons x (xs ++ ys) (ls 0) (lettered_append xs ys (lettered_rest x xs ls) ks)

-- the first cells
pub lettered_take : (n : ℕ) (xs : List Cell) → Lettered xs → Lettered (take n xs)
lettered_take zero xs ls = lettered_nil
lettered_take (suc n) [] ls = lettered_nil
lettered_take (suc n) (x ∷ xs) ls =
    lettered_cons x (take n xs) (ls 0) (lettered_take n xs (lettered_rest x xs ls))

-- all but the first cells
pub lettered_drop : (n : ℕ) (xs : List Cell) → Lettered xs → Lettered (drop n xs)
lettered_drop n xs ls i = ap lettered (get_or-drop n xs i Wall) ∙ ls (n + i)

-- a drawn cell in front of drawn cells
abbrev pub onto : Cell → Option (List Cell) → Option (List Cell)
onto x o = elim o [ Some xs ↦ Some (x ∷ xs) | None ↦ None ]

-- the same where it may be that no cell is drawn
abbrev pub before : Option Cell → Option (List Cell) → Option (List Cell)
before o rest = elim o [ Some x ↦ onto x rest | None ↦ None ]

-- lettered cells are drawn by their characters
pub cells_of_symbols : (xs : List Cell) → Lettered xs → cells_of (map symbol_of xs) ≡ Some xs
cells_of_symbols [] ls = refl
cells_of_symbols (x ∷ xs) ls =
    ap (λ o. before o (cells_of (map symbol_of xs))) (drawn_back x (ls 0))
    ∙ ap (onto x) (cells_of_symbols xs (lettered_rest x xs ls))

-- where cells are drawn, the first is, and the others are
pub parts : (o : Option Cell) (rest : Option (List Cell)) (ys : List Cell) → before o rest ≡ Some ys → (x : Cell) × (xs : List Cell) × (o ≡ Some x) × (rest ≡ Some xs) × (x ∷ xs ≡ ys)
parts (Some x) (Some xs) ys e = (x, xs, refl, refl, cc)
parts (Some x) None ys e = cc
parts None rest ys e = cc

-- cells have these characters, are as many, and are lettered
abbrev pub Drawn : List ℕ → List Cell → Type 0
Drawn cs xs = (map symbol_of xs ≡ cs) × (length xs ≡ length cs) × Lettered xs

drawn_more : (c : ℕ) (cs : List ℕ) (x : Cell) (xs : List Cell) → cell_of c ≡ Some x → Drawn cs xs → Drawn (c ∷ cs) (x ∷ xs)
drawn_more c cs x xs e d =
    let one = draws_one c x e in (
      ap (λ k. k ∷ map symbol_of xs) one.1 ∙ ap (λ l. c ∷ l) d.0,
      ap suc d.1,
      lettered_cons x xs one.0 d.2,
    )

-- drawn cells have the characters that draw them
pub symbols_of_cells : (cs : List ℕ) (xs : List Cell) → cells_of cs ≡ Some xs → Drawn cs xs
symbols_of_cells [] xs e = let same : [] ≡ xs = cc in subst (Drawn []) same (refl, refl, lettered_nil)
symbols_of_cells (c ∷ cs) xs e =
    let p = parts (cell_of c) (cells_of cs) xs e in
    subst (Drawn (c ∷ cs)) p.4 (drawn_more c cs p.0 p.1 p.2 (symbols_of_cells cs p.1 p.3))
