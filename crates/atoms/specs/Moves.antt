-- Moves and the finish in the words of the game, without the steps of any program. Assumes nothing.
use Rattle.std.specs.Prelude.{◌≡◌, ℕ, ◌+◌, ◌*◌, ◌<◌, ◌↔◌, Bool, length, take, position, Some, Option, option_and_then, ◌==◌, ◌≢◌, slice_index}
use Rattle.grid.specs.declared.Direction.{Direction}
use Rattle.grid.specs.declared.Coordinates.{Coordinates}
use Rattle.grid.specs.Grid.{number_of, cell_at}
use Rattle.puzzle.specs.Game.{Played}
use Rattle.slides.specs.declared.cell_set.CellSet.{CellSet}
use Rattle.slides.specs.Slides.{Slides}
use Rattle.molecules.specs.GoalPlaces.{IsGoalPlace, LiesOver}
use Rattle.atoms.specs.declared.position.Position.{Position}
use Rattle.atoms.specs.Board.{labels_of}
use Rattle.atoms.specs.Level.{Atoms, count, is_blocked, HasBlocked, destination}

module _ (l : Atoms) where
  -- playing a move from a position, where a set has its blocked cells, answers what the game says
  abbrev pub PlaysMove : Position → CellSet → ℕ → Bool → Position → Position → Type 0
  PlaysMove p blocked m answer old new = HasBlocked l p blocked → Played (destination l p m) answer old new

  -- the same of the slide of an atom in a direction
  abbrev pub SlidesAtom : Position → CellSet → ℕ → Direction → Bool → Position → Position → Type 0
  SlidesAtom p blocked a d = PlaysMove p blocked (4 * a + number_of d)

  -- One atom slides: the cells that it passes are free and the next one is not. Every other atom stays.
  pub record Moves (p : Position) (m : ℕ) (q : Position) : Type 0 where
    pub atom : ℕ
    pub direction : Direction
    pub numbered : m ≡ 4 * atom + number_of direction
    pub there : atom < count l
    pub slides : Slides l.board.width l.board.height (is_blocked l p) direction (slice_index p.cells atom) (slice_index q.cells atom)
    pub others : (a : ℕ) → (a ≢ atom) → slice_index q.cells a ≡ slice_index p.cells a
    pub long : length q.cells ≡ 16

  -- a move is open and leads to q exactly where an atom slides so
  abbrev pub MovesExactly : Position → ℕ → Type 0
  MovesExactly p m = length p.cells ≡ 16 → (q : Position) → (destination l p m ≡ Some q) ↔ Moves p m q

  -- on a goal place every atom stands on a cell of its label
  pub record Finished (p : Position) : Type 0 where
    pub goal_place : ℕ
    pub inside : goal_place < length l.board.cells
    pub goal : IsGoalPlace l.board l.molecule goal_place
    pub fits : (a : ℕ) → a < count l → LiesOver l.board l.molecule goal_place (slice_index p.cells a) (slice_index (labels_of l.board) a)

  -- the atom that stands on a cell
  abbrev pub atom_on : Position → ℕ → Option ℕ
  atom_on p cell = position (λ k. k == cell) (take (count l) p.cells)

  -- the atom that stands on a row and a column of the board
  abbrev pub atom_at : Position → Coordinates → Option ℕ
  atom_at p at = option_and_then (atom_on p) (cell_at l.board.width l.board.height at)
