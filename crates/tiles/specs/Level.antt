-- A tile level and the game that it is. Assumes nothing.
use Rattle.std.specs.Prelude.{◌≡◌, ℕ, ◌*◌, ◌≤◌, Bool, ◌&&◌, take, MatchOption, option_map, option_and_then, Option, nat_le}
use Rattle.grid.specs.declared.Direction.{Direction}
use Rattle.grid.specs.Grid.{direction_of}
use Rattle.puzzle.specs.Game.{Game, Played}
use Rattle.tiles.specs.declared.level.TileLevel.{TileLevel}
use Rattle.tiles.specs.Board.{position_of, first_cells, cells, blank_of, tiles_after_slide, at_home_from, Numbered}

-- a level by its numbers
pub record Tiles : Type 0 where
  pub width : ℕ
  pub height : ℕ
  pub start : ℕ

abbrev pub tiles_of : ℕ → ℕ → ℕ → Tiles
tiles_of w h p = record { width = w; height = h; start = p }

-- a side of 2 to 4 cells
abbrev pub side : ℕ → Bool
side n = nat_le 2 n && nat_le n 4

-- numbers make a level where the board is 2 to 4 cells wide and high, and each tile number is on exactly one cell
pub record Valid (l : Tiles) : Type 0 where
  pub wide : (2 ≤ l.width) × (l.width ≤ 4)
  pub high : (2 ≤ l.height) × (l.height ≤ 4)
  pub numbered : Numbered (l.width * l.height) l.start

abbrev pub tiles : TileLevel → Tiles
tiles l = tiles_of l.grid.width l.grid.height l.start

-- the level that these numbers make, or none where they make none
abbrev pub MakesLevel : Tiles → Option TileLevel → Type 0
MakesLevel l made = MatchOption made (Valid l → ⊥) (λ level. (tiles level ≡ l) × Valid (tiles level))

-- where the blank of a position is, if it is on the board
abbrev pub IsBlankCell : Tiles → ℕ → Option ℕ → Type 0
IsBlankCell l p cell = cell ≡ blank_of (take (l.width * l.height) (cells p))

-- the position after the blank went one cell in a direction
abbrev pub destination_towards : Tiles → ℕ → Direction → Option ℕ
destination_towards l p d = option_map position_of (tiles_after_slide l.width l.height (cells p) d)

-- the position after move m: 0 up, 1 down, 2 left, 3 right
abbrev pub destination : Tiles → ℕ → ℕ → Option ℕ
destination l p m = option_and_then (destination_towards l p) (direction_of m)

-- playing move m of a position, where the blank's cell is known
abbrev pub PlaysMove : Tiles → ℕ → Option ℕ → ℕ → Bool → ℕ → ℕ → Type 0
PlaysMove l p blank m answer old new = IsBlankCell l p blank → Played (destination l p m) answer old new

-- sending the blank one cell in a direction, where its cell is known
abbrev pub SendsBlank : Tiles → ℕ → Option ℕ → Direction → Bool → ℕ → ℕ → Type 0
SendsBlank l p blank d answer old new = IsBlankCell l p blank → Played (destination_towards l p d) answer old new

-- every tile is at home
abbrev pub finished : Tiles → ℕ → Bool
finished l p = at_home_from (l.width * l.height) 0 (first_cells (l.width * l.height) p)

abbrev pub game : Tiles → Game ℕ
game l = record { start = l.start; count = 4; move = destination l; finished = finished l }
