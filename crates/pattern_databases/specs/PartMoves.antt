-- Some atoms of a level alone on its board, without the others: where they stand, and how they move. Assumes nothing.
use Rattle.std.specs.Prelude.{◌≡◌, ℕ, ◌+◌, ◌<◌, Bool, ◌||◌, List, ◌++◌, length, take, drop, ◌==◌, slice_index, slice_set}
use Rattle.std.specs.List.{list_any}
use Rattle.grid.specs.declared.Direction.{Direction}
use Rattle.slides.specs.Slides.{Passes}
use Rattle.pictures.specs.Pictures.{Shape}
use Rattle.atoms.specs.Board.{is_wall_at}
use Rattle.pattern_databases.specs.Floor.{IsFree}

-- two atoms stand on one cell
pub record Meet (cells : List ℕ) : Type 0 where
  pub one : ℕ
  pub other : ℕ
  pub one_there : one < length cells
  pub other_there : other < length cells
  pub different : one ≡ other → ⊥
  pub same : slice_index cells one ≡ slice_index cells other

-- the cells of the other atoms
abbrev pub partners : List ℕ → ℕ → List ℕ
partners cells atom = take atom cells ++ drop (atom + 1) cells

module _ (b : Shape) where
  -- so many atoms stand on these free cells, the first atom on the first; some of them maybe on one cell
  pub record Stands (size : ℕ) (cells : List ℕ) : Type 0 where
    pub long : length cells ≡ size
    pub free : (atom : ℕ) → atom < size → IsFree b (slice_index cells atom)

  -- a cell is a wall, or a partner of the atom stands there
  abbrev pub is_closed : List ℕ → ℕ → ℕ → Bool
  is_closed cells atom cell = list_any (λ k. cell == k) (partners cells atom) || is_wall_at b cell

  -- an atom goes one or more cells in one direction, over cells that are no walls and hold no partner
  pub record Goes (cells : List ℕ) (atom to : ℕ) : Type 0 where
    pub direction : Direction
    pub passed : List ℕ
    pub some : 0 < length passed
    pub way : Passes b.width b.height (is_closed cells atom) direction (slice_index cells atom) passed to

  -- One move: one atom goes, and the others stay. Before it all stand on different cells, and so they do after it.
  pub record PartMove (cells after : List ℕ) : Type 0 where
    pub atom : ℕ
    pub there : atom < length cells
    pub stands : Stands (length cells) cells
    pub apart : Meet cells → ⊥
    pub goes : Goes cells atom (slice_index after atom)
    pub others : after ≡ slice_set cells atom (slice_index after atom)

  -- so many moves lead from one placement to another
  pub data PartMoves : List ℕ → ℕ → List ℕ → Type 0 where
    here : {cells : List ℕ} → PartMoves cells 0 cells
    then : {cells next last : List ℕ} {n : ℕ} → PartMove cells next → PartMoves next n last → PartMoves cells (n + 1) last
