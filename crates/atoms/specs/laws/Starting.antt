-- At the start the cells of the atoms rise, and all are on the board. Assumes nothing.
use Rattle.std.proofs.Common.{◌≡◌, ℕ, zero, suc, ◌+◌, ◌-◌, ◌<◌, ◌≤◌, Bool, true, false, cond, List, [], ◌∷◌, map, length, get_or, replicate, filter, sym, refl, ap, ◌∙◌, ⊎_elim, arith}
use Rattle.std.specs.List.{All, range_with_len}
use Rattle.std.proofs.lemmas.List.FromFn.{fill_by_all, length-range_with_len, get_or-range_with_len}
use Rattle.std.proofs.lemmas.List.Elements.{All-get_or, All-from_get_or, All-filter, All-weaker}
use Rattle.std.proofs.lemmas.List.{length-map, length-append, length-replicate, get_or_append_left}
use Rattle.std.proofs.lemmas.List.Sums.{length-filter}
use Rattle.std.proofs.lemmas.Bool.{cases_order, cond_both}
use Rattle.pictures.specs.declared.cell.Cell.TheVariants.{Wall}
use Rattle.pictures.specs.Pictures.{Shape, cell_at}
use Rattle.molecules.specs.Atoms.{is_atom, atom_count}
use Rattle.atoms.specs.Board.{atom_cells, start_cells}

-- what passes of what a function gives, is what it gives of what passes before it
pub filter-map : {X Y : Type 0} (test : Y → Bool) (f : X → Y) (xs : List X) → filter test (map f xs) ≡ map f (filter (λ x. test (f x)) xs)
filter-map test f [] = refl
filter-map {X = X} {Y = Y} test f (x ∷ xs) = by (test (f x)) _ _ (filter-map test f xs)
  where
    by : (b : Bool) (ys : List Y) (zs : List X) → ys ≡ map f zs → cond b (f x ∷ ys) ys ≡ map f (cond b (x ∷ zs) zs)
    by true ys zs rest = ap (λ l. f x ∷ l) rest
    by false ys zs rest = rest

-- each number is less than those behind it
abbrev Rises : List ℕ → Type 0
Rises xs = (i j : ℕ) → i < j → j < length xs → get_or xs i 0 < get_or xs j 0

rises_cons : (x : ℕ) (xs : List ℕ) → All (λ y. x < y) xs → Rises xs → Rises (x ∷ xs)
rises_cons x xs low rest i zero h k = absurd (omega arith)
rises_cons x xs low rest zero (suc j) h k = All-get_or (λ y. x < y) xs j 0 (omega arith) low
rises_cons x xs low rest (suc i) (suc j) h k = rest i j (omega arith) (omega arith)

-- so no number is there twice
rises_apart : (xs : List ℕ) → Rises xs → (i j : ℕ) → i < length xs → j < length xs → get_or xs i 0 ≡ get_or xs j 0 → i ≡ j
rises_apart xs rises i j hi hj e =
    ⊎_elim (λ same. same)
    (⊎_elim (λ less. absurd (omega (arith, rises i j less hj))) (λ more. absurd (omega (arith, rises j i more hi))))
    (cases_order i j)

-- n numbers that are counted from a on
abbrev Within : ℕ → ℕ → ℕ → Type 0
Within a n k = (a ≤ k) × (k < a + n)

counting_within : (a n : ℕ) → All (Within a n) (range_with_len a n)
counting_within a n =
    All-from_get_or (Within a n) (range_with_len a n) 0
    (λ i h.
    let inside : i < n = omega (arith, length-range_with_len a n) in
    let at = get_or-range_with_len a n i 0 inside in
    (omega arith, omega arith))

-- those of them that pass a test
module _ (test : ℕ → Bool) where
  kept_within : (a n : ℕ) → All (Within a n) (filter test (range_with_len a n))
  kept_within a n = All-filter test (Within a n) (range_with_len a n) (counting_within a n)

  kept_rises : (a n : ℕ) → Rises (filter test (range_with_len a n))
  kept_rises a zero = λ i j h k. absurd (omega arith)
  kept_rises a (suc n) =
      let rest = filter test (range_with_len (a + 1) n) in
      let above = All-weaker (Within (a + 1) n) (λ k. a < k) (λ k h. omega (arith, h.0)) rest (kept_within (a + 1) n) in
      cond_both (test a) (a ∷ rest) rest Rises (λ _. rises_cons a rest above (kept_rises (a + 1) n)) (λ _. kept_rises (a + 1) n)

module _ (b : Shape) where
  -- the numbers of the cells
  abbrev numbers : List ℕ
  numbers = range_with_len 0 (length b.cells)

  -- the atoms among the cells
  pub atoms_among : filter is_atom b.cells ≡ map (cell_at b) (atom_cells b)
  atoms_among =
      ap (filter is_atom) (fill_by_all (cell_at b) b.cells _ Wall refl (λ k h. refl)) ∙ filter-map is_atom (cell_at b) numbers

  -- as many as the atoms are their cells
  pub length_atoms : length (atom_cells b) ≡ atom_count b
  length_atoms =
      sym (length-map (atom_cells b) (cell_at b)) ∙ sym (ap length atoms_among) ∙ length-filter is_atom b.cells

  -- the cells are as many as a position has
  pub start_long : atom_count b ≤ 16 → length (start_cells b) ≡ 16
  start_long few =
      let rest = 16 - length (atom_cells b) in
      omega (arith, length-append (atom_cells b) (replicate rest 0), length-replicate {A = ℕ} rest 0, length_atoms)

  start_at : (a : ℕ) → a < atom_count b → get_or (start_cells b) a 0 ≡ get_or (atom_cells b) a 0
  start_at a there = get_or_append_left (atom_cells b) _ 0 a (omega (arith, length_atoms))

  -- each is a cell of the board
  pub start_inside : (a : ℕ) → a < atom_count b → get_or (start_cells b) a 0 < length b.cells
  start_inside a there =
      let n = length b.cells in
      let within = All-get_or (Within 0 n) (atom_cells b) a 0 (omega (arith, length_atoms)) (kept_within _ 0 n) in
      omega (arith, start_at a there, within.1)

  -- no two are the same
  pub start_apart : (a c : ℕ) → a < atom_count b → c < atom_count b → get_or (start_cells b) a 0 ≡ get_or (start_cells b) c 0 → a ≡ c
  start_apart a c ha hc e =
      rises_apart (atom_cells b) (kept_rises _ 0 (length b.cells)) a c (omega (arith, length_atoms)) (omega (arith, length_atoms))
      (sym (start_at a ha) ∙ e ∙ start_at c hc)
