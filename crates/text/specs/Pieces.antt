-- The pieces of a line. Assumes nothing.
use Rattle.std.specs.Prelude.{◌≡◌, ℕ, ◌<◌, ◌≤◌, Bool, true, false, cond, List, [], ◌∷◌, length, take, drop, Some, None, decimal, Option, ◌==◌}
use Rattle.std.specs.Borrow.{Bor}
use Rattle.std.specs.List.{prefix_len}
use Rattle.text.specs.declared.pieces.Token.{Token}
use Rattle.text.specs.declared.pieces.Token.TheVariants.{Open, Close, Word, Number}
use Rattle.text.specs.declared.pieces.Piece.{Piece}
use Rattle.text.specs.declared.line.Line.{Line}
use Rattle.text.specs.Numbers.{read_number}
use Rattle.text.specs.Lines.{bytes}

-- what a token says, with the bytes in place of a reference to them
pub data TokenValue : Type 0 where
  opens : TokenValue
  closes : TokenValue
  word : List ℕ → TokenValue
  number : ℕ → TokenValue

abbrev pub token_value : Token → TokenValue
token_value Open = opens
token_value Close = closes
token_value (Word w) = word w.now
token_value (Number n) = number n

-- neither a blank nor a bracket
abbrev pub plain : ℕ → Bool
plain b = cond (b == 32) false (cond (b == 40) false (cond (b == 41) false true))

abbrev pub or_word : List ℕ → Option ℕ → TokenValue
or_word w (Some n) = number n
or_word w None = word w

-- a run of plain bytes is a number where it spells one, and else a word
abbrev pub of_run : List ℕ → TokenValue
of_run w = or_word w (read_number w)

-- the run of plain bytes at the front, and what is left
abbrev pub run_in : List ℕ → Option (TokenValue × List ℕ)
run_in l = cond (prefix_len plain l == 0) None (Some (of_run (take (prefix_len plain l) l), drop (prefix_len plain l) l))

-- the piece at the front, and what is left; none at the end and at a blank
abbrev pub piece_in : List ℕ → Option (TokenValue × List ℕ)
piece_in [] = None
piece_in (b ∷ bs) = cond (b == 40) (Some (opens, bs)) (cond (b == 41) (Some (closes, bs)) (run_in (b ∷ bs)))

abbrev pub piece_value : Option (Piece × Line) → Option (TokenValue × List ℕ)
piece_value (Some (p, l)) = Some (token_value p.token, bytes l)
piece_value None = None

-- what a result says of pieces and of what is left of the line
abbrev pub number_value : Option (ℕ × Line) → Option (ℕ × List ℕ)
number_value (Some (n, l)) = Some (n, bytes l)
number_value None = None

abbrev pub word_value : Option (Bor (List ℕ) × Line) → Option (List ℕ × List ℕ)
word_value (Some (w, l)) = Some (w.now, bytes l)
word_value None = None

abbrev pub rest_value : Option Line → Option (List ℕ)
rest_value (Some l) = Some (bytes l)
rest_value None = None

-- a line that begins later in the same text
pub record Within (a b : Line) : Type 0 where
  pub same : b.text.now ≡ a.text.now
  pub on : a.at ≤ b.at
  pub inside : b.at ≤ length b.text.now

-- the bytes that spell a piece
abbrev pub spell : TokenValue → List ℕ
spell opens = 40 ∷ []
spell closes = 41 ∷ []
spell (word w) = w
spell (number n) = decimal n

-- a word that is no number, of plain bytes
pub record Keyword (w : List ℕ) : Type 0 where
  pub some : 0 < length w
  pub plainly : prefix_len plain w ≡ length w
  pub unlike : read_number w ≡ None
