-- How moves of tile levels are written: `(move up)` sends the blank up. Assumes nothing.
use Rattle.std.specs.Prelude.{ℕ, List, [], ◌∷◌, Some, None, codes, Option}
use Rattle.grid.specs.declared.Direction.{Direction}
use Rattle.grid.specs.Grid.{number_of, direction_of, word_of, of_word}
use Rattle.text.specs.Forms.{◌then◌, word_in, last_only, arguments_of, arguments_line}
use Rattle.ways.specs.Notations.{Spelling, outcome_of}
use Rattle.tiles.specs.Level.{Tiles, destination}

-- the direction that a line `(move DIRECTION)` says
abbrev pub direction_in : List ℕ → Option Direction
direction_in l = arguments_of (codes "move") l then word_in then last_only then of_word

-- the line that says it
abbrev pub direction_line : Direction → List ℕ
direction_line d = arguments_line (codes "move") (32 ∷ word_of d)

-- nothing where there is no direction: of a number past the last move
abbrev pub move_line : Option Direction → List ℕ
move_line (Some d) = direction_line d
move_line None = []

abbrev pub spelling : Tiles → Spelling ℕ Direction
spelling l = record {
  reading = direction_in;
  outcome = λ p d. outcome_of (destination l p (number_of d));
  line = λ p m. move_line (direction_of m);
}
