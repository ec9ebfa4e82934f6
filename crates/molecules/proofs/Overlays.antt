-- Which atom a molecule wants where, in rows and columns. Assumes nothing.
use Rattle.std.proofs.Common.{◌≡◌, ℕ, ◌+◌, ◌-◌, ◌<◌, ◌≤◌, Bool, true, false, cond, ◌&&◌, ltb, leb, refl, ap, ◌∙◌, arith}
use Rattle.std.proofs.lemmas.Nat.{div-mul-add, mod-mul-add, mod_below, div-add-mod'}
use Rattle.std.proofs.lemmas.Bool.{false≢true}
use Rattle.std.proofs.lemmas.Bool.Decides.{nat_tests}
use Rattle.grid.specs.Grid.{row, column, at}
use Rattle.pictures.specs.declared.cell.Cell.{Cell}
use Rattle.pictures.specs.declared.cell.Cell.TheVariants.{Wall}
use Rattle.pictures.specs.Pictures.{Shape, cell_at}
use Rattle.molecules.specs.Atoms.{has_label}
use Rattle.molecules.specs.GoalPlaces.{wants, LiesOver, WantsExactly}

-- the label of the cell of m that is over row r and column c, where m begins at row `top` and column `left`
abbrev label_over : Shape → ℕ → ℕ → ℕ → ℕ → ℕ → Bool
label_over m label top left r c =
    has_label label
    (cond (leb top r && (leb left c && ltb (c - left) m.width)) (cell_at m (at m.width (r - top) (c - left))) Wall)

-- what has a label is no wall
labelled_parts : (label : ℕ) (t : Bool) (x : Cell) → has_label label (cond t x Wall) ≡ true → (t ≡ true) × (has_label label x ≡ true)
labelled_parts label true x e = (refl, e)
labelled_parts label false x e = absurd (false≢true e)

-- so it is not above m or beside it
covered : (w top left r c : ℕ) → leb top r && (leb left c && ltb (c - left) w) ≡ true → (top ≤ r) × (left ≤ c) × (c - left < w)
covered w top left r c e = (grind (arith, nat_tests), grind (arith, nat_tests), grind (arith, nat_tests))

-- the label of the cell d rows down and a columns across
label_over_lem : (m : Shape) (label top left d a : ℕ) → a < m.width → label_over m label top left (top + d) (left + a) ≡ has_label label (cell_at m (at m.width d a))
label_over_lem m label top left d a h = grind (arith, nat_tests)

-- m lies on b with its first cell on `goal_place`
module _ (b m : Shape) (goal_place cell label : ℕ) where
  -- the wanted atom lies over the cell
  wants_to : wants b m goal_place cell label ≡ true → LiesOver b m goal_place cell label
  wants_to e =
      let d = row b.width cell - row b.width goal_place in
      let a = column b.width cell - column b.width goal_place in
      let p = labelled_parts label _ (cell_at m (at m.width d a)) e in
      let h = covered m.width (row b.width goal_place) (column b.width goal_place) (row b.width cell) (column b.width cell) p.0 in
      record {
        part = at m.width d a;
        labelled = p.1;
        down = omega (arith, div-mul-add d m.width a h.2);
        across = omega (arith, mod-mul-add d m.width a h.2);
      }

  -- an atom over the cell is wanted
  wants_from : 1 ≤ m.width → LiesOver b m goal_place cell label → wants b m goal_place cell label ≡ true
  wants_from wide w =
      let over = label_over m label (row b.width goal_place) (column b.width goal_place) in
      ap (λ r. over r (column b.width cell)) w.down
      ∙ ap (λ c. over (row b.width goal_place + row m.width w.part) c) w.across
      ∙ label_over_lem m label _ _ (row m.width w.part) _ (mod_below w.part m.width wide)
      ∙ ap (λ i. has_label label (cell_at m i)) (div-add-mod' w.part m.width)
      ∙ w.labelled

  -- what is wanted lies over the cell, and the other way round
  pub wants_exactly : 1 ≤ m.width → WantsExactly b m goal_place cell label
  wants_exactly wide = (wants_to, wants_from wide)
