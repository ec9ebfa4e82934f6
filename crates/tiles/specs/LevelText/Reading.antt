-- What the text of a tile level is read as. Assumes nothing.
use Rattle.std.specs.Prelude.{ℕ, zero, suc, ◌-◌, ◌*◌, Bool, true, cond, ◌&&◌, List, [], ◌∷◌, ◌++◌, length, Some, None, Ok, Err, codes, count_by, Option, Result, ◌==◌, nat_eq, nat_lt}
use Rattle.std.specs.Option.{option_map, ok_or}
use Rattle.std.specs.Str.{bytes_eq}
use Rattle.refusals.specs.declared.Fault.{Fault}
use Rattle.refusals.specs.declared.Refusal.{Refusal}
use Rattle.refusals.specs.Refusals.{fault}
use Rattle.text.specs.Forms.{◌then◌, number_in, size_after, arguments_after, line_form}
use Rattle.text.specs.LevelReading as reading
use Rattle.tiles.specs.Board.{position_of}
use Rattle.tiles.specs.Level.{Tiles, tiles_of, side, Valid}
use Rattle.tiles.specs.LevelText.Writing.{level_text}

-- the form of a line: `(tiles W H`, `(row X)` with the blank before its X, or `)`
pub data Form : Type 0 where
  size : ℕ → ℕ → Form
  row : List ℕ → Form
  close : Form

-- by what follows the keyword
abbrev pub keyword_form : List ℕ → List ℕ → Option Form
keyword_form kw rest =
    cond (bytes_eq kw (codes "tiles")) (option_map (λ s. size s.0 s.1) (size_after rest))
    (cond (bytes_eq kw (codes "row")) (option_map row (arguments_after rest)) None)

abbrev pub form_of : List ℕ → Option Form
form_of l = line_form keyword_form close l

-- what a reader expects next; after the head with the board's width and height and the tiles so far
pub data Expect : Type 0 where
  head : Expect
  -- so many rows
  rows : ℕ → ℕ → ℕ → List ℕ → Expect
  -- the closing bracket
  last : ℕ → ℕ → List ℕ → Expect
  nothing : ℕ → ℕ → List ℕ → Expect

-- k numbers below a limit, each after one blank, and nothing else
abbrev pub numbers_in : ℕ → ℕ → List ℕ → Option (List ℕ)
numbers_in limit zero l = cond (length l == 0) (Some []) None
numbers_in limit (suc k) l =
    number_in l then (λ x. cond (nat_lt x.0 limit) (numbers_in limit k x.1 then (λ ns. Some (x.0 ∷ ns))) None)

-- after a head of this size
abbrev pub after_size : ℕ → ℕ → Result Expect Fault
after_size w h = cond (side w && side h) (Ok (rows w h h [])) (Err (fault 13))

-- after a row that was due with so many rows, and these tiles with it
abbrev pub after_tiles : ℕ → ℕ → ℕ → List ℕ → Expect
after_tiles w h due ts = cond (due == 1) (last w h ts) (rows w h (due - 1) ts)

-- after the row that these bytes spell
abbrev pub after_row : ℕ → ℕ → ℕ → List ℕ → List ℕ → Result Expect Fault
after_row w h due ts x = ok_or (option_map (λ r. after_tiles w h due (ts ++ r)) (numbers_in (w * h) w x)) (fault 14)

-- what is expected and the form of the line, judged together
abbrev pub after_form : Expect → Option Form → Result Expect Fault
after_form head (Some (size w h)) = after_size w h
after_form (rows w h due ts) (Some (row x)) = after_row w h due ts x
after_form (last w h ts) (Some close) = Ok (nothing w h ts)
after_form _ _ = Err (fault 12)

-- each number below n comes once
abbrev pub each_once : ℕ → List ℕ → Bool
each_once zero ts = true
each_once (suc n) ts = count_by (nat_eq n) ts == 1 && each_once n ts

abbrev pub level : ℕ → ℕ → List ℕ → Tiles
level w h ts = tiles_of w h (position_of ts)

-- the level, where nothing is expected any more
abbrev pub level_at_end : Expect → Option (Result Tiles Fault)
level_at_end (nothing w h ts) = Some (cond (each_once (w * h) ts) (Ok (level w h ts)) (Err (fault 18)))
level_at_end _ = None

abbrev pub grammar : reading.Grammar Expect Tiles
grammar = record { start = head; after = λ e l. after_form e (form_of l); level = level_at_end }

-- the level that a text spells, or why it spells none
abbrev pub read_level : List ℕ → Result Tiles Refusal
read_level text = reading.read_level grammar text

-- a text is read as a level exactly where it is that level written out
abbrev pub ReadsExactly : List ℕ → Type 0
ReadsExactly text = reading.ReadsExactly read_level Valid level_text text
