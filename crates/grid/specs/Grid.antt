-- Directions, and the cells of a board in reading order. Assumes nothing.
use Rattle.std.specs.Prelude.{◌≡◌, ℕ, ◌+◌, ◌-◌, ◌*◌, ◌/◌, ◌%◌, ◌<◌, ◌&&◌, cond, List, Some, None, codes, Option, Result, ◌==◌, ◌≢◌, nat_lt}
use Rattle.std.specs.Result.{result_ok}
use Rattle.std.specs.Str.{bytes_eq}
use Rattle.grid.specs.declared.Direction.{Direction}
use Rattle.grid.specs.declared.Direction.TheVariants.{Up, Down, Left, Right}
use Rattle.grid.specs.declared.Coordinates.{Coordinates}
use Rattle.grid.specs.declared.UnknownDirection.{UnknownDirection}

abbrev pub number_of : Direction → ℕ
number_of Up = 0
number_of Down = 1
number_of Left = 2
number_of Right = 3

abbrev pub direction_of : ℕ → Option Direction
direction_of n =
    cond (n == 0) (Some Up) (cond (n == 1) (Some Down) (cond (n == 2) (Some Left) (cond (n == 3) (Some Right) None)))

abbrev pub word_of : Direction → List ℕ
word_of Up = codes "up"
word_of Down = codes "down"
word_of Left = codes "left"
word_of Right = codes "right"

-- the direction that a word spells
abbrev pub of_word : List ℕ → Option Direction
of_word w =
    cond (bytes_eq w (word_of Up)) (Some Up)
    (cond (bytes_eq w (word_of Down)) (Some Down)
    (cond (bytes_eq w (word_of Left)) (Some Left) (cond (bytes_eq w (word_of Right)) (Some Right) None)))

-- the row and the column of a cell on a board w cells wide, and the cell at a row and a column
abbrev pub row : ℕ → ℕ → ℕ
row w cell = cell / w

abbrev pub column : ℕ → ℕ → ℕ
column w cell = cell % w

abbrev pub at : ℕ → ℕ → ℕ → ℕ
at w r c = r * w + c

-- the row and the column of a cell of a board w cells wide and h high: none if it is not on the board
abbrev pub coordinates_of : ℕ → ℕ → ℕ → Option Coordinates
coordinates_of w h cell = cond (nat_lt cell (w * h)) (Some (record { row = row w cell; column = column w cell })) None

-- the cell on a row and a column: none if they are not on the board
abbrev pub cell_at : ℕ → ℕ → Coordinates → Option ℕ
cell_at w h p = cond (nat_lt p.row h && nat_lt p.column w) (Some (at w p.row p.column)) None

-- one step on from the row r and the column c of a board w cells wide and h high: none past the edge
abbrev pub beside : ℕ → ℕ → ℕ → ℕ → Direction → Option ℕ
beside w h r c Up = cond (r == 0) None (Some (at w (r - 1) c))
beside w h r c Down = cond (nat_lt (r + 1) h) (Some (at w (r + 1) c)) None
beside w h r c Left = cond (c == 0) None (Some (at w r (c - 1)))
beside w h r c Right = cond (nat_lt (c + 1) w) (Some (at w r (c + 1))) None

-- the cell one step on from a cell, which has to be on the board
abbrev pub neighbour : ℕ → ℕ → ℕ → Direction → Option ℕ
neighbour w h cell d = cond (nat_lt cell (w * h)) (beside w h (row w cell) (column w cell) d) None

-- a direction's number names it again, and is below 4
abbrev pub NumberReadsBack : Direction → Type 0
NumberReadsBack d = (direction_of (number_of d) ≡ Some d) × (number_of d < 4)

-- a number names no direction but the one whose number it is
abbrev pub NumbersOne : ℕ → Type 0
NumbersOne m = (d : Direction) → direction_of m ≡ Some d → number_of d ≡ m

-- a direction's word names it again
abbrev pub WordReadsBack : Direction → Type 0
WordReadsBack d = of_word (word_of d) ≡ Some d

-- the cell on the row and the column of a cell is that cell
abbrev pub CoordinatesReadBack : ℕ → ℕ → ℕ → Type 0
CoordinatesReadBack w h cell = (p : Coordinates) → coordinates_of w h cell ≡ Some p → cell_at w h p ≡ Some cell

-- the row and the column of the cell that lies there are those
abbrev pub CellReadsBack : ℕ → ℕ → Coordinates → Type 0
CellReadsBack w h p = (cell : ℕ) → cell_at w h p ≡ Some cell → coordinates_of w h cell ≡ Some p

-- one step on is another cell of the board
abbrev pub StepsOn : ℕ → ℕ → ℕ → Direction → Type 0
StepsOn w h cell d = (t : ℕ) → neighbour w h cell d ≡ Some t → (t < w * h) × (t ≢ cell)

-- a direction's number
pub record IsNumberOf (d : Direction) (m : ℕ) : Type 0 where
  pub named : m ≡ number_of d
  pub back : NumberReadsBack d

-- the direction that a number names, or an error where it names none
pub record SaysNumber (m : ℕ) (r : Result Direction UnknownDirection) : Type 0 where
  pub named : result_ok r ≡ direction_of m
  pub back : NumbersOne m

-- the direction that a word spells, or an error where it spells none
abbrev pub SaysWord : List ℕ → Result Direction UnknownDirection → Type 0
SaysWord w r = result_ok r ≡ of_word w
