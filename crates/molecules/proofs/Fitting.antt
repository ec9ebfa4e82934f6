-- Where a molecule can lie on a board, cell by cell. Assumes nothing.
use Rattle.std.proofs.Common.{◌≡◌, ℕ, ◌<◌, Bool, true, false, not, ◌||◌, length, ap, ◌∙◌, zero-add, ⊎_elim}
use Rattle.std.specs.List.{list_all, enumerate_from}
use Rattle.std.proofs.lemmas.List.{get_or_past}
use Rattle.std.proofs.lemmas.List.Folds.{list_all-map}
use Rattle.std.proofs.lemmas.List.FromFn.{fill_by_all, length-enumerate_from, get_or-enumerate_from}
use Rattle.std.proofs.lemmas.Bool.{cases_Bool, cases_lt, or_cases, or_left, or_right, not-true, not_from_false, both_ways}
use Rattle.pictures.specs.declared.cell.Cell.{Cell}
use Rattle.pictures.specs.declared.cell.Cell.TheVariants.{Wall}
use Rattle.pictures.specs.Pictures.{Shape, cell_at}
use Rattle.molecules.specs.Atoms.{is_atom, is_wall}
use Rattle.molecules.specs.GoalPlaces.{cell_under, IsGoalPlace, is_goal_place}
use Rattle.molecules.proofs.Below.{every_below_lem, every_below_from}

-- m lies on b with its first cell on `goal_place`
module _ (b m : Shape) (goal_place : ℕ) where
  -- whether cell i of the molecule is no atom or lies on no wall
  abbrev lies : ℕ → Bool
  lies i = not (is_atom (cell_at m i)) || not (is_wall (cell_under b m goal_place i))

  -- where there is no atom, or no wall
  no_atom_lies : (i : ℕ) → is_atom (cell_at m i) ≡ false → lies i ≡ true
  no_atom_lies i e = or_left _ _ (not_from_false _ e)

  no_wall_lies : (i : ℕ) → is_wall (cell_under b m goal_place i) ≡ false → lies i ≡ true
  no_wall_lies i e = or_right _ _ (not_from_false _ e)

  -- an atom is one of the molecule's cells
  atom_inside : (i : ℕ) → is_atom (cell_at m i) ≡ true → i < length m.cells
  atom_inside i e =
      ⊎_elim (λ h. h) (λ past. absurd (both_ways _ (ap is_atom (get_or_past m.cells i Wall past)) e)) (cases_lt i (length m.cells))

  -- the test says whether every atom falls on no wall
  pub is_goal_place_lem : is_goal_place b m goal_place ≡ true → IsGoalPlace b m goal_place
  is_goal_place_lem e i atom =
      ⊎_elim (λ none. absurd (both_ways _ (not-true _ none) atom)) (not-true _)
      (or_cases _ _ (every_below_lem (length m.cells) (λ k. lies k) e i (atom_inside i atom)))

  pub is_goal_place_from : IsGoalPlace b m goal_place → is_goal_place b m goal_place ≡ true
  is_goal_place_from goal =
      every_below_from (length m.cells) (λ k. lies k)
      (λ i h. ⊎_elim (λ atom. no_wall_lies i (goal i atom)) (no_atom_lies i) (cases_Bool (is_atom (cell_at m i))))

  -- the same, asked of a cell of the molecule with its number
  abbrev pub lies_numbered : ℕ × Cell → Bool
  lies_numbered p = not (is_atom p.1) || not (is_wall (cell_under b m goal_place p.0))

  pub is_goal_place_numbered : list_all lies_numbered (enumerate_from 0 m.cells) ≡ is_goal_place b m goal_place
  is_goal_place_numbered =
      let numbered : ℕ → ℕ × Cell = λ k. (k, cell_at m k) in
      ap (list_all lies_numbered)
      (fill_by_all numbered (enumerate_from 0 m.cells) _ (0, Wall) (length-enumerate_from 0 m.cells) (λ k h. get_or-enumerate_from 0 m.cells k (0, Wall) h ∙ ap (λ j. (j, cell_at m k)) (zero-add k)))
      ∙ list_all-map lies_numbered numbered _
