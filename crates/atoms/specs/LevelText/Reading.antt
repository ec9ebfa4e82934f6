-- What the text of an atom level is read as. Assumes nothing.
use Rattle.std.specs.Prelude.{ℕ, ◌-◌, Bool, cond, ◌&&◌, List, [], length, Some, None, Ok, Err, codes, Option, Result, ◌==◌, nat_le, nat_lt}
use Rattle.std.specs.Option.{option_map, ok_or}
use Rattle.std.specs.Str.{bytes_eq}
use Rattle.refusals.specs.declared.Fault.{Fault}
use Rattle.refusals.specs.declared.Refusal.{Refusal}
use Rattle.refusals.specs.Refusals.{fault}
use Rattle.text.specs.Forms.{◌then◌, size_after, content_after, line_form}
use Rattle.text.specs.Reading.{map_ok}
use Rattle.text.specs.LevelReading as reading
use Rattle.pictures.specs.Pictures.{Shape, shape_of, blank_shape, with_row}
use Rattle.molecules.specs.Atoms.{with_want}
use Rattle.atoms.specs.Level.{Atoms, Valid}
use Rattle.atoms.specs.Making.{level_of}
use Rattle.atoms.specs.LevelText.Writing.{level_text}

-- the form of a line: `(atomix W H`, `(row X)`, `(want X)`, or `)`
pub data Form : Type 0 where
  size : ℕ → ℕ → Form
  row : List ℕ → Form
  want : List ℕ → Form
  close : Form

-- by what follows the keyword
abbrev pub keyword_form : List ℕ → List ℕ → Option Form
keyword_form kw rest =
    cond (bytes_eq kw (codes "atomix")) (option_map (λ s. size s.0 s.1) (size_after rest))
    (cond (bytes_eq kw (codes "row")) (option_map row (content_after rest))
    (cond (bytes_eq kw (codes "want")) (option_map want (content_after rest)) None))

abbrev pub form_of : List ℕ → Option Form
form_of l = line_form keyword_form close l

-- what a reader expects next, with the board and the molecule as far as they are drawn
pub data Expect : Type 0 where
  head : Expect
  -- a row of the board, and so many after it
  rows : Shape → ℕ → Expect
  -- the first row of the molecule, which settles its width
  first : Shape → Expect
  -- a further row of the molecule, or the closing bracket
  wants : Shape → Shape → Expect
  nothing : Shape → Shape → Expect

-- a side of 1 to 16 cells
abbrev pub side : ℕ → Bool
side n = nat_le 1 n && nat_le n 16

-- after a head of this size
abbrev pub after_size : ℕ → ℕ → Result Expect Fault
after_size w h = cond (side w && side h) (Ok (rows (shape_of w 0 []) (h - 1))) (Err (fault 13))

-- after a row of the board that so many follow
abbrev pub after_row : ℕ → Shape → Expect
after_row more b = cond (more == 0) (first b) (rows b (more - 1))

-- the molecule of a first row
abbrev pub first_want : List ℕ → Option Shape
first_want x = blank_shape (length x) then (λ m. with_want m x)

-- the molecule with a further row
abbrev pub next_want : Shape → List ℕ → Result Shape Fault
next_want m x = cond (nat_lt m.height 16) (ok_or (with_want m x) (fault 15)) (Err (fault 12))

-- what is expected and the form of the line, judged together
abbrev pub after_form : Expect → Option Form → Result Expect Fault
after_form head (Some (size w h)) = after_size w h
after_form (rows b more) (Some (row x)) = ok_or (option_map (after_row more) (with_row b x)) (fault 14)
after_form (first b) (Some (want x)) = ok_or (option_map (wants b) (first_want x)) (fault 15)
after_form (wants b m) (Some (want x)) = map_ok (wants b) (next_want m x)
after_form (wants b m) (Some close) = Ok (nothing b m)
after_form _ _ = Err (fault 12)

-- the level, where nothing is expected any more
abbrev pub level_at_end : Expect → Option (Result Atoms Fault)
level_at_end (nothing b m) = Some (level_of b m)
level_at_end _ = None

abbrev pub grammar : reading.Grammar Expect Atoms
grammar = record { start = head; after = λ e l. after_form e (form_of l); level = level_at_end }

-- the level that a text spells, or why it spells none
abbrev pub read_level : List ℕ → Result Atoms Refusal
read_level text = reading.read_level grammar text

-- a text is read as a level exactly where it is that level written out
abbrev pub ReadsExactly : List ℕ → Type 0
ReadsExactly text = reading.ReadsExactly read_level Valid level_text text
