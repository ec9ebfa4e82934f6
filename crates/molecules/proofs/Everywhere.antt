-- Where a molecule may lie, in rows and columns: with an atom on each edge nowhere but on its goal places.
-- Assumes nothing.
use Rattle.std.proofs.Common.{◌≡◌, ℕ, ◌+◌, ◌*◌, ◌<◌, ◌≤◌, Bool, true, false, cond, ltb, length, mul_comm, List, sym, refl, ap, subst, ⊎_elim, arith}
use Rattle.std.proofs.lemmas.Nat.{div-mul-add, mod-mul-add, div_below}
use Rattle.std.proofs.lemmas.List.{get_or_past}
use Rattle.std.proofs.lemmas.Bool.{cases_lt, both_ways}
use Rattle.std.proofs.lemmas.Bool.Decides.{nat_tests}
use Rattle.grid.specs.Grid.{row, column, at}
use Rattle.pictures.specs.declared.cell.Cell.{Cell}
use Rattle.pictures.specs.declared.cell.Cell.TheVariants.{Wall}
use Rattle.pictures.specs.declared.picture.Picture.{Picture}
use Rattle.pictures.specs.Pictures.{Shape, shape, cell_at}
use Rattle.pictures.proofs.Shapes.{length_cells}
use Rattle.molecules.specs.Atoms.{is_wall, is_edged}
use Rattle.molecules.specs.GoalPlaces.{cell_under, IsGoalPlace, goal_places, MayLie, BeginsOnOneOf, ListsOnBoard, ListsEverywhere}
use Rattle.molecules.proofs.Edges.{atom_on_top, atom_on_left}
use Rattle.molecules.proofs.Passing.{lists_exactly}

-- what is no wall is one of the cells
free_inside : (b : Shape) (i : ℕ) → is_wall (cell_at b i) ≡ false → i < length b.cells
free_inside b i free =
    ⊎_elim (λ h. h) (λ past. absurd (both_ways _ free (ap is_wall (get_or_past b.cells i Wall past)))) (cases_lt i (length b.cells))

-- what is no wall is no cell past the border
parts : (t : Bool) (x : Cell) → is_wall (cond t x Wall) ≡ false → (t ≡ true) × (is_wall x ≡ false)
parts true x e = (refl, e)
parts false x e = absurd (both_ways _ e refl)

-- the cell under a part of the molecule is no wall where it is on the board and free
under_free : (b m : Shape) (place part r c : ℕ) → r ≡ row b.width place + row m.width part → c ≡ column b.width place + column m.width part → c < b.width
    → is_wall (cell_at b (at b.width r c)) ≡ false → is_wall (cell_under b m place part) ≡ false
under_free b m place part r c down across wide free = grind (arith, nat_tests)

-- m lies on b with its first cell on `place`
module _ (b m : Shape) (down up right left place : ℕ) (downward : row b.width place + up ≡ down) (across : column b.width place + left ≡ right) where
  -- where it may lie so, that is a goal place
  may_lie_goal : MayLie b m down up right left → IsGoalPlace b m place
  may_lie_goal fits part atom =
      let f = fits part atom in
      under_free b m place part f.row_under f.column_under (omega (arith, f.downward)) (omega (arith, f.across)) f.column_inside f.free

  -- and on a goal place it may
  goal_may_lie : length b.cells ≡ b.width * b.height → IsGoalPlace b m place → MayLie b m down up right left
  goal_may_lie filled goal part atom =
      let r = row b.width place + row m.width part in
      let c = column b.width place + column m.width part in
      let under = parts (ltb c b.width) (cell_at b (at b.width r c)) (goal part atom) in
      let on : c < b.width = grind (arith, nat_tests) in
      let inside = free_inside b (at b.width r c) under.1 in
      let same_row : row b.width (at b.width r c) ≡ r = div-mul-add r b.width c on in
      let below = div_below (at b.width r c) b.width b.height (omega arith) (omega (arith, inside, filled, mul_comm b.width b.height)) in
      record {
        row_under = r;
        column_under = c;
        downward = omega arith;
        across = omega arith;
        row_inside = omega (arith, below, same_row);
        column_inside = on;
        free = under.1;
      }

-- An edged molecule that may lie so begins on the board: in the row under its top atom, and in the column under its
-- left one.
begins : (b m : Shape) (down up right left : ℕ) → is_edged m ≡ true → MayLie b m down up right left → BeginsOnOneOf b m down up right left (goal_places b m)
begins b m down up right left edged fits =
    let top = atom_on_top m edged in
    let side = atom_on_left m edged in
    let on_top = fits (at m.width 0 top.0) top.2 in
    let on_left = fits (at m.width side.0 0) side.2 in
    let no_row : row m.width (at m.width 0 top.0) ≡ 0 = div-mul-add 0 m.width top.0 top.1 in
    let no_column : column m.width (at m.width side.0 0) ≡ 0 = mod-mul-add side.0 m.width 0 (omega (arith, top.1)) in
    let r = on_top.row_under in
    let c = on_left.column_under in
    let place = at b.width r c in
    let place_row : row b.width place ≡ r = div-mul-add r b.width c on_left.column_inside in
    let place_column : column b.width place ≡ c = mod-mul-add r b.width c on_left.column_inside in
    let downward : row b.width place + up ≡ down = omega (arith, on_top.downward) in
    let across : column b.width place + left ≡ right = omega (arith, on_left.across) in
    let before : c ≤ on_top.column_under = omega (arith, on_top.across, on_left.across) in
    let inside : place < length b.cells = omega (arith, free_inside b _ on_top.free) in
    record {
      place = place;
      listed = (lists_exactly b m place).1 (inside, may_lie_goal b m down up right left place downward across fits);
      downward = downward;
      across = across;
    }

module _ (b m : Shape) (filled : length b.cells ≡ b.width * b.height) where
  pub lists_on_board : ListsOnBoard b m (goal_places b m)
  lists_on_board p =
      let downward : row b.width p + 0 ≡ row b.width p = omega arith in
      let across : column b.width p + 0 ≡ column b.width p = omega arith in
      let exactly = lists_exactly b m p in (
        λ has. let h = exactly.0 has in (h.0, goal_may_lie b m _ 0 _ 0 p downward across filled h.1),
        λ h. exactly.1 (h.0, may_lie_goal b m _ 0 _ 0 p downward across h.1),
      )

  pub lists_everywhere : is_edged m ≡ true → ListsEverywhere b m (goal_places b m)
  lists_everywhere edged down up right left = (
    begins b m down up right left edged,
    λ on. goal_may_lie b m down up right left on.place on.downward on.across filled ((lists_exactly b m on.place).0 on.listed).1,
  )

-- the same of a list that was found
pub found_on_board : (p : Picture) (m : Shape) (places : List ℕ) → places ≡ goal_places (shape p) m → ListsOnBoard (shape p) m places
found_on_board p m places found = subst (ListsOnBoard (shape p) m) (sym found) (lists_on_board (shape p) m (length_cells p))

pub found_everywhere : (p : Picture) (m : Shape) (places : List ℕ) → places ≡ goal_places (shape p) m → is_edged m ≡ true → ListsEverywhere (shape p) m places
found_everywhere p m places found edged =
    subst (ListsEverywhere (shape p) m) (sym found) (lists_everywhere (shape p) m (length_cells p) edged)
