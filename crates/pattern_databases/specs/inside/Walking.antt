-- Walks over a map of walls. Assumes nothing.
use Rattle.std.specs.Prelude.{◌≡◌, ℕ, ◌*◌, ◌<◌, ◌↔◌, Bool, not, List, [], ◌∷◌, length, Contains, unwrap_or, ◌==◌, slice_index, slice_set}
use Rattle.grid.specs.declared.Direction.{Direction}
use Rattle.grid.specs.Grid.{neighbour}
use Rattle.slides.specs.Slides.{Passes}
use Rattle.pictures.specs.Pictures.{Shape}
use Rattle.molecules.specs.Atoms.{is_wall}
use Rattle.pictures.specs.Pictures.{cell_at}
use Rattle.pattern_databases.specs.PartMoves.{partners}

-- the cell one step on, and the cell itself where the board ends
abbrev pub step : ℕ → ℕ → ℕ → Direction → ℕ
step w h cell d = unwrap_or (neighbour w h cell d) cell

-- a cell is no free one on a map
abbrev pub is_marked : List ℕ → ℕ → Bool
is_marked map cell = not (slice_index map cell == 0)

-- a map shows just the walls of a board; past the board all is wall
pub record ShowsWalls (b : Shape) (map : List ℕ) : Type 0 where
  pub long : length map ≡ 256
  pub shows : (cell : ℕ) → cell < 256 → is_marked map cell ≡ is_wall (cell_at b cell)

-- a map with more cells marked
abbrev pub marked : List ℕ → List ℕ → List ℕ
marked map [] = map
marked map (cell ∷ cells) = marked (slice_set map cell 1) cells

-- all are cells of the board
abbrev pub Inside : ℕ → ℕ → List ℕ → Type 0
Inside w h cells = (i : ℕ) → i < length cells → slice_index cells i < w * h

-- one or more steps in one direction lead to a cell, over cells that are free on a map
pub record Walks (w h : ℕ) (map : List ℕ) (from to : ℕ) : Type 0 where
  pub direction : Direction
  pub passed : List ℕ
  pub some : 0 < length passed
  pub way : Passes w h (is_marked map) direction from passed to

-- the landings are the cells that one walks to
abbrev pub WalksExactly : ℕ → ℕ → List ℕ → ℕ → List ℕ → Type 0
WalksExactly w h map from landings = (to : ℕ) → Contains landings to ↔ Walks w h map from to

-- the landings of an atom, where its partners are marked
abbrev pub LandsExactly : ℕ → ℕ → List ℕ → List ℕ → ℕ → List ℕ → Type 0
LandsExactly w h map cells atom = WalksExactly w h (marked map (partners cells atom)) (slice_index cells atom)
