-- An atom level and the game that it is. Assumes nothing.
use Rattle.std.specs.Prelude.{◌≡◌, ℕ, ◌*◌, ◌/◌, ◌%◌, ◌≤◌, Bool, true, cond, ◌||◌, List, length, take, Some, None, Option, option_and_then, ◌==◌, nat_lt, slice_index, slice_set}
use Rattle.std.specs.List.{list_any}
use Rattle.grid.specs.declared.Direction.{Direction}
use Rattle.grid.specs.Grid.{direction_of}
use Rattle.puzzle.specs.Game.{Game}
use Rattle.pictures.specs.Cells.{Lettered}
use Rattle.pictures.specs.Pictures.{Shape, shape}
use Rattle.slides.specs.declared.cell_set.CellSet.{CellSet}
use Rattle.slides.specs.Sets.{has}
use Rattle.slides.specs.Slides.{rest_cell}
use Rattle.molecules.specs.Below.{every_below}
use Rattle.molecules.specs.Atoms.{Unwalled, is_edged, atom_count, SameLabels}
use Rattle.molecules.specs.Molecules.{molecule_shape}
use Rattle.molecules.specs.GoalPlaces.{goal_places, wants}
use Rattle.atoms.specs.declared.level.AtomLevel.{AtomLevel}
use Rattle.atoms.specs.declared.position.Position.{Position}
use Rattle.atoms.specs.Board.{labels_of, start_cells, is_wall_at}

-- a level by what is drawn
pub record Atoms : Type 0 where
  pub board : Shape
  pub molecule : Shape

abbrev pub atoms_of : Shape → Shape → Atoms
atoms_of b m = record { board = b; molecule = m }

abbrev pub atoms : AtomLevel → Atoms
atoms l = atoms_of (shape l.board) (molecule_shape l.molecule)

-- a picture of 1 to 16 columns and rows, with a cell for each, whose labels are letters
pub record Drawn (s : Shape) : Type 0 where
  pub wide : (1 ≤ s.width) × (s.width ≤ 16)
  pub high : (1 ≤ s.height) × (s.height ≤ 16)
  pub whole : length s.cells ≡ s.width * s.height
  pub lettered : Lettered s.cells

-- Pictures make a level where the molecule has no walls and an atom on each edge, there are 1 to 16 atoms, and each
-- label is as often in the molecule as on the board.
pub record Valid (l : Atoms) : Type 0 where
  pub board : Drawn l.board
  pub molecule : Drawn l.molecule
  pub unwalled : Unwalled l.molecule
  pub edges : is_edged l.molecule ≡ true
  pub some : 1 ≤ atom_count l.board
  pub few : atom_count l.board ≤ 16
  pub matched : SameLabels l.board l.molecule

abbrev pub position_of : List ℕ → Position
position_of cells = record { cells = cells }

module _ (l : Atoms) where
  abbrev pub count : ℕ
  count = atom_count l.board

  -- a cell is not free: an atom stands there, or it is a wall
  abbrev pub is_blocked : Position → ℕ → Bool
  is_blocked p k = list_any (λ cell. k == cell) (take count p.cells) || is_wall_at l.board k

  -- a set has just the blocked cells of a position
  abbrev pub HasBlocked : Position → CellSet → Type 0
  HasBlocked p s = (k : ℕ) → has s k ≡ is_blocked p k

  -- the cell where an atom comes to rest that slides in a direction
  abbrev pub rest_of : Position → ℕ → Direction → ℕ
  rest_of p a d = rest_cell l.board.width l.board.height (is_blocked p) d (slice_index p.cells a)

  -- the position with an atom on another cell, and every other atom where it was
  abbrev pub with_atom_on : Position → ℕ → ℕ → Position
  with_atom_on p a cell = position_of (slice_set p.cells a cell)

  -- the position after the slide of an atom, which is closed where the atom rests on its own cell
  abbrev pub slide_destination : Position → ℕ → Direction → Option Position
  slide_destination p a d =
      cond (rest_of p a d == slice_index p.cells a) None (Some (with_atom_on p a (rest_of p a d)))

  -- the position after move 4 × atom + direction; the move of an atom that the level lacks is closed
  abbrev pub destination : Position → ℕ → Option Position
  destination p m = cond (nat_lt (m / 4) count) (option_and_then (slide_destination p (m / 4)) (direction_of (m % 4))) None

  -- every atom stands on a cell of its label, where the molecule lies on this goal place
  abbrev pub fits : Position → ℕ → Bool
  fits p goal_place =
      every_below count (λ a. wants l.board l.molecule goal_place (slice_index p.cells a) (slice_index (labels_of l.board) a))

  -- on some goal place every atom stands on a cell of its label
  abbrev pub finished : Position → Bool
  finished p = list_any (fits p) (goal_places l.board l.molecule)

  abbrev pub game : Game Position
  game = record { start = position_of (start_cells l.board); count = 64; move = destination; finished = finished }
