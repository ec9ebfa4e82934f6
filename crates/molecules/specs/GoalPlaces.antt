-- Where a molecule can lie on a board, and which atom it then wants where. Assumes nothing.
use Rattle.std.specs.Prelude.{◌≡◌, ℕ, ◌+◌, ◌-◌, ◌<◌, ◌↔◌, Bool, true, false, cond, not, ◌&&◌, ◌||◌, List, length, take, Contains, filter, nat_le, nat_lt}
use Rattle.std.specs.List.{range_with_len}
use Rattle.grid.specs.Grid.{row, column, at}
use Rattle.pictures.specs.declared.cell.Cell.{Cell}
use Rattle.pictures.specs.declared.cell.Cell.TheVariants.{Wall}
use Rattle.pictures.specs.Pictures.{Shape, cell_at}
use Rattle.molecules.specs.Below.{every_below}
use Rattle.molecules.specs.Atoms.{is_wall, is_atom, has_label}
use Rattle.molecules.specs.declared.goal_places.GoalPlaces.{GoalPlaces}

-- The molecule m lies on the board b with its first cell on `goal_place`.
module _ (b m : Shape) (goal_place : ℕ) where
  -- the cell of the board under cell i of the molecule; beyond the border all is wall
  abbrev pub cell_under : ℕ → Cell
  cell_under i =
      cond (nat_lt (column b.width goal_place + column m.width i) b.width)
      (cell_at b (at b.width (row b.width goal_place + row m.width i) (column b.width goal_place + column m.width i)))
      Wall

  -- every atom of the molecule falls on a cell of the board that is no wall
  abbrev pub IsGoalPlace : Type 0
  IsGoalPlace = (i : ℕ) → is_atom (cell_at m i) ≡ true → is_wall (cell_under i) ≡ false

  abbrev pub is_goal_place : Bool
  is_goal_place = every_below (length m.cells) (λ i. not (is_atom (cell_at m i)) || not (is_wall (cell_under i)))

  -- the cell of the molecule over a cell of the board; beside the molecule there is none, which reads as wall
  abbrev pub cell_over : ℕ → Cell
  cell_over cell =
      cond
      (nat_le (row b.width goal_place) (row b.width cell)
      && (nat_le (column b.width goal_place) (column b.width cell) && nat_lt (column b.width cell - column b.width goal_place) m.width))
      (cell_at m
      (at m.width (row b.width cell - row b.width goal_place) (column b.width cell - column b.width goal_place)))
      Wall

  -- the molecule wants an atom of this label on a cell of the board
  abbrev pub wants : ℕ → ℕ → Bool
  wants cell label = has_label label (cell_over cell)

  -- the same in rows and columns: an atom of this label lies over that cell
  pub record LiesOver (cell label : ℕ) : Type 0 where
    pub part : ℕ
    pub labelled : has_label label (cell_at m part) ≡ true
    pub down : row b.width cell ≡ row b.width goal_place + row m.width part
    pub across : column b.width cell ≡ column b.width goal_place + column m.width part

  abbrev pub WantsExactly : ℕ → ℕ → Type 0
  WantsExactly cell label = (wants cell label ≡ true) ↔ LiesOver cell label

-- all goal places, in reading order
abbrev pub goal_places : Shape → Shape → List ℕ
goal_places b m = filter (is_goal_place b m) (range_with_len 0 (length b.cells))

abbrev pub list_of : GoalPlaces → List ℕ
list_of g = take g.count g.cells

-- the list has the goal places among the cells of the board, and nothing else
abbrev pub ListsExactly : Shape → Shape → Type 0
ListsExactly b m = (p : ℕ) → Contains (goal_places b m) p ↔ ((p < length b.cells) × IsGoalPlace b m p)

-- The molecule m lies anywhere, also above the board b or beside it: its first cell lies `down` rows below the board's
-- first one and then `up` rows back, and `right` columns to the right of it and then `left` columns back.
module _ (b m : Shape) (down up right left : ℕ) where
  -- a cell of the molecule falls on a cell of the board that is no wall
  pub record FallsOnFree (part : ℕ) : Type 0 where
    pub row_under : ℕ
    pub column_under : ℕ
    pub downward : row_under + up ≡ row m.width part + down
    pub across : column_under + left ≡ column m.width part + right
    pub row_inside : row_under < b.height
    pub column_inside : column_under < b.width
    pub free : is_wall (cell_at b (at b.width row_under column_under)) ≡ false

  -- every atom of the molecule does: it may lie so
  abbrev pub MayLie : Type 0
  MayLie = (part : ℕ) → is_atom (cell_at m part) ≡ true → FallsOnFree part

  -- the first cell of the molecule lies on one of these cells of the board
  pub record BeginsOnOneOf (places : List ℕ) : Type 0 where
    pub place : ℕ
    pub listed : Contains places place
    pub downward : row b.width place + up ≡ down
    pub across : column b.width place + left ≡ right

-- these are the cells of the board on which its first cell may lie
abbrev pub ListsOnBoard : Shape → Shape → List ℕ → Type 0
ListsOnBoard b m places =
    (p : ℕ) → Contains places p ↔ ((p < length b.cells) × MayLie b m (row b.width p) 0 (column b.width p) 0)

-- wherever its first cell lies, it may lie so exactly if that is on one of these cells of the board
abbrev pub ListsEverywhere : Shape → Shape → List ℕ → Type 0
ListsEverywhere b m places =
    (down up right left : ℕ) → MayLie b m down up right left ↔ BeginsOnOneOf b m down up right left places
