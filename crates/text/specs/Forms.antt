-- The forms that lines have. Assumes nothing.
use Rattle.std.specs.Prelude.{◌≡◌, ℕ, ◌+◌, ◌<◌, Bool, true, false, cond, ◌&&◌, List, [], ◌∷◌, ◌++◌, length, take, Some, None, decimal, Option, ◌==◌, nat_lt, slice_index, slice_index_or}
use Rattle.std.specs.List.{prefix_len}
use Rattle.std.specs.Str.{bytes_eq}
use Rattle.std.specs.Borrow.{Bor}
use Rattle.text.specs.declared.forms.Bracket.{Bracket}
use Rattle.text.specs.declared.forms.Bracket.TheVariants.{Open, Close}
use Rattle.text.specs.Lines.{line_at, bytes}
use Rattle.text.specs.Pieces.{TokenValue, opens, closes, word, number, piece_in, Keyword}

-- what is left after one blank at the front
abbrev pub after_blank : List ℕ → Option (List ℕ)
after_blank [] = None
after_blank (b ∷ bs) = cond (b == 32) (Some bs) None

abbrev pub number_only : TokenValue × List ℕ → Option (ℕ × List ℕ)
number_only (opens, rest) = None
number_only (closes, rest) = None
number_only (word w, rest) = None
number_only (number n, rest) = Some (n, rest)

abbrev pub word_only : TokenValue × List ℕ → Option (List ℕ × List ℕ)
word_only (opens, rest) = None
word_only (closes, rest) = None
word_only (word w, rest) = Some (w, rest)
word_only (number n, rest) = None

-- what is left after an opening bracket
abbrev pub open_only : TokenValue × List ℕ → Option (List ℕ)
open_only (opens, rest) = Some rest
open_only (closes, rest) = None
open_only (word w, rest) = None
open_only (number n, rest) = None

infixl 20 ◌then◌
abbrev pub ◌then◌ : {A B : Type 0} → Option A → (A → Option B) → Option B
Some a then f = f a
None then f = None

-- one blank and a number, and what is left
abbrev pub number_in : List ℕ → Option (ℕ × List ℕ)
number_in l = after_blank l then piece_in then number_only

-- of one or two digits
abbrev pub is_short : ℕ → Bool
is_short n = nat_lt n 100

abbrev pub short_only : ℕ × List ℕ → Option (ℕ × List ℕ)
short_only (n, rest) = cond (is_short n) (Some (n, rest)) None

-- one blank and a number of one or two digits, and what is left
abbrev pub short_number_in : List ℕ → Option (ℕ × List ℕ)
short_number_in l = number_in l then short_only

-- a word, and what is left
abbrev pub plain_word_in : List ℕ → Option (List ℕ × List ℕ)
plain_word_in l = piece_in l then word_only

-- one blank and a word, and what is left
abbrev pub word_in : List ℕ → Option (List ℕ × List ℕ)
word_in l = after_blank l then plain_word_in

-- what is left after an opening bracket
abbrev pub open_in : List ℕ → Option (List ℕ)
open_in l = piece_in l then open_only

-- the word behind an opening bracket, and what is left
abbrev pub keyword_in : List ℕ → Option (List ℕ × List ℕ)
keyword_in l = open_in l then plain_word_in

-- the keyword of a text's first line
abbrev pub first_keyword : List ℕ → Option (List ℕ)
first_keyword text = line_at text 0 then (λ l. keyword_in l.0) then (λ k. Some k.0)

-- a word that has to be this one
abbrev pub this_word : List ℕ → List ℕ × List ℕ → Option (List ℕ)
this_word kw (w, rest) = cond (bytes_eq w kw) (Some rest) None

-- what is left after an opening bracket and this word
abbrev pub after_keyword : List ℕ → List ℕ → Option (List ℕ)
after_keyword kw l = keyword_in l then this_word kw

-- what has to be the last of its line
abbrev pub last_only : {A : Type 0} → A × List ℕ → Option A
last_only (a, rest) = cond (length rest == 0) (Some a) None

-- two numbers of one or two digits each
abbrev pub short : ℕ → ℕ → Option (ℕ × ℕ)
short w h = cond (is_short w && is_short h) (Some (w, h)) None

-- N after the keyword of `(KEYWORD N`
abbrev pub count_after : List ℕ → Option ℕ
count_after r = number_in r then last_only

-- W and H, of one or two digits each, after the keyword of `(KEYWORD W H`
abbrev pub size_after : List ℕ → Option (ℕ × ℕ)
size_after r = number_in r then (λ w. number_in w.1 then last_only then short w.0)

-- no bracket
abbrev pub inside : ℕ → Bool
inside b = cond (b == 40) false (cond (b == 41) false true)

-- a blank and one or more bytes that are no brackets, before a closing bracket that ends the line
abbrev pub before_closing : List ℕ → ℕ → Option (List ℕ)
before_closing l n = cond (length l == n + 1 && (nat_lt 1 n && (slice_index l 0 == 32 && slice_index l n == 41))) (Some (take n l)) None

-- X after the keyword of `(KEYWORD X)`, with the blank before it
abbrev pub arguments_after : List ℕ → Option (List ℕ)
arguments_after r = before_closing r (prefix_len inside r)

-- X alone
abbrev pub content_after : List ℕ → Option (List ℕ)
content_after r = arguments_after r then after_blank

-- lines of one keyword
abbrev pub count_of : List ℕ → List ℕ → Option ℕ
count_of kw l = after_keyword kw l then count_after

abbrev pub size_of : List ℕ → List ℕ → Option (ℕ × ℕ)
size_of kw l = after_keyword kw l then size_after

abbrev pub arguments_of : List ℕ → List ℕ → Option (List ℕ)
arguments_of kw l = after_keyword kw l then arguments_after

abbrev pub content_of : List ℕ → List ℕ → Option (List ℕ)
content_of kw l = after_keyword kw l then content_after

abbrev pub bytes_value : Option (Bor (List ℕ)) → Option (List ℕ)
bytes_value (Some x) = Some x.now
bytes_value None = None

-- the line that closes a level or a way
abbrev pub closing : List ℕ
closing = 41 ∷ []

abbrev pub is_closing : List ℕ → Bool
is_closing l = bytes_eq l closing

-- a line by its bracket: an opening bracket and a keyword, before what is left; or a lone closing bracket
pub data BracketValue : Type 0 where
  opened : List ℕ → List ℕ → BracketValue
  closed : BracketValue

abbrev pub bracket_in : List ℕ → Option BracketValue
bracket_in l = cond (is_closing l) (Some closed) (keyword_in l then (λ k. Some (opened k.0 k.1)))

-- the form of a line of a kind: by its keyword and what is left after it, or that of a lone closing bracket
module _ {F : Type 0} (keyword_form : List ℕ → List ℕ → Option F) (close : F) where
  abbrev pub bracket_form : BracketValue → Option F
  bracket_form (opened kw rest) = keyword_form kw rest
  bracket_form closed = Some close

  abbrev pub line_form : List ℕ → Option F
  line_form l = bracket_in l then bracket_form

abbrev pub bracket_value : Option Bracket → Option BracketValue
bracket_value (Some (Open w rest)) = Some (opened w.now (bytes rest))
bracket_value (Some Close) = Some closed
bracket_value None = None

-- `(KEYWORD N`, `(KEYWORD W H` and `(KEYWORD X)` as bytes; the X has the blank before it
abbrev pub count_line : List ℕ → ℕ → List ℕ
count_line kw n = 40 ∷ (kw ++ (32 ∷ decimal n))

abbrev pub size_line : List ℕ → ℕ → ℕ → List ℕ
size_line kw w h = 40 ∷ (kw ++ (32 ∷ (decimal w ++ (32 ∷ decimal h))))

abbrev pub arguments_line : List ℕ → List ℕ → List ℕ
arguments_line kw xs = 40 ∷ (kw ++ (xs ++ closing))

abbrev pub content_line : List ℕ → List ℕ → List ℕ
content_line kw xs = arguments_line kw (32 ∷ xs)

-- one or more bytes that are no brackets
abbrev pub Content : List ℕ → Type 0
Content xs = (0 < length xs) × (prefix_len inside xs ≡ length xs)

-- such an X is had by the lines that spell it, and by no others
pub record ContentHolds : Type 0 where
  pub only : (kw l xs : List ℕ) → content_of kw l ≡ Some xs → (l ≡ content_line kw xs) × Content xs
  pub all : (kw xs : List ℕ) → Keyword kw → Content xs → content_of kw (content_line kw xs) ≡ Some xs

-- a blank, and one or more bytes that are no brackets
pub record Arguments (xs : List ℕ) : Type 0 where
  pub blank : slice_index_or xs 0 0 ≡ 32
  pub some : 1 < length xs
  pub within : prefix_len inside xs ≡ length xs

-- each form is had by the lines that spell it, and by no others
pub record FormsHold : Type 0 where
  pub count_only : (kw l : List ℕ) (n : ℕ) → count_of kw l ≡ Some n → (l ≡ count_line kw n) × (n < 10000000)
  pub count_all : (kw : List ℕ) (n : ℕ) → Keyword kw → n < 10000000 → count_of kw (count_line kw n) ≡ Some n
  pub size_only : (kw l : List ℕ) (w h : ℕ) → size_of kw l ≡ Some (w, h) → (l ≡ size_line kw w h) × (w < 100) × (h < 100)
  pub size_all : (kw : List ℕ) (w h : ℕ) → Keyword kw → w < 100 → h < 100 → size_of kw (size_line kw w h) ≡ Some (w, h)
  pub arguments_only : (kw l xs : List ℕ) → arguments_of kw l ≡ Some xs → (l ≡ arguments_line kw xs) × Arguments xs
  pub arguments_all : (kw xs : List ℕ) → Keyword kw → Arguments xs → arguments_of kw (arguments_line kw xs) ≡ Some xs
