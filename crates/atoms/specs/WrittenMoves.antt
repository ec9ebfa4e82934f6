-- How moves of atom levels are written: `(move R C right)` slides the atom on row R and column C. Assumes nothing.
use Rattle.std.specs.Prelude.{ℕ, ◌+◌, ◌*◌, ◌/◌, ◌%◌, cond, ◌&&◌, List, [], ◌∷◌, ◌++◌, Some, None, Err, codes, decimal, Option, Result, nat_lt, slice_index}
use Rattle.grid.specs.declared.Coordinates.{Coordinates}
use Rattle.grid.specs.declared.Direction.{Direction}
use Rattle.grid.specs.Grid.{number_of, direction_of, word_of, of_word, coordinates_of}
use Rattle.text.specs.Forms.{◌then◌, is_short, number_in, word_in, last_only, arguments_of, arguments_line}
use Rattle.atoms.specs.declared.position.Position.{Position}
use Rattle.atoms.specs.declared.notation.AtomMove.{AtomMove}
use Rattle.atoms.specs.Level.{Atoms, count, destination}
use Rattle.atoms.specs.Moves.{atom_at}
use Rattle.ways.specs.declared.notation.IllegalMove.{IllegalMove}
use Rattle.ways.specs.declared.notation.IllegalMove.TheVariants.{NothingThere}
use Rattle.ways.specs.Notations.{Spelling, outcome_of}

abbrev pub move_of : ℕ → ℕ → Direction → AtomMove
move_of r c d = record { from = record { row = r; column = c }; direction = d }

-- row and column have one or two digits
abbrev pub short_move : ℕ → ℕ → Direction → Option AtomMove
short_move r c d = cond (is_short r && is_short c) (Some (move_of r c d)) None

-- the last word of a line
abbrev pub direction_in : List ℕ → Option Direction
direction_in l = word_in l then last_only then of_word

-- what a line `(move R C DIRECTION)` says
abbrev pub move_in : List ℕ → Option AtomMove
move_in l =
    arguments_of (codes "move") l then number_in
    then (λ r. number_in r.1 then (λ c. direction_in c.1 then short_move r.0 c.0))

-- the line that says it
abbrev pub move_text : AtomMove → List ℕ
move_text m =
    arguments_line (codes "move")
    (32 ∷ (decimal m.from.row ++ (32 ∷ (decimal m.from.column ++ (32 ∷ word_of m.direction)))))

-- the line of the move of an atom from where it stands; nothing where it stands on no cell of the board
abbrev pub line_from : Option Coordinates → Option Direction → List ℕ
line_from (Some from) (Some d) = move_text (record { from = from; direction = d })
line_from (Some from) None = []
line_from None way = []

module _ (l : Atoms) where
  -- where the slide of an atom leads, if one stands there
  abbrev pub outcome_by : Position → Direction → Option ℕ → Result Position IllegalMove
  outcome_by p d (Some a) = outcome_of (destination l p (4 * a + number_of d))
  outcome_by p d None = Err NothingThere

  -- the line of move 4 × atom + direction, open or closed; nothing where the level lacks the atom
  abbrev pub line_of : Position → ℕ → List ℕ
  line_of p m =
      cond (nat_lt (m / 4) (count l))
      (line_from (coordinates_of l.board.width l.board.height (slice_index p.cells (m / 4))) (direction_of (m % 4))) []

  abbrev pub spelling : Spelling Position AtomMove
  spelling = record {
    reading = move_in;
    outcome = λ p m. outcome_by p m.direction (atom_at l p m.from);
    line = line_of;
  }
