-- Texts and their lines. Assumes nothing.
use Rattle.std.specs.Prelude.{◌≡◌, ℕ, ◌+◌, ◌-◌, Bool, true, cond, not, ◌&&◌, ◌||◌, List, [], ◌∷◌, ◌++◌, length, take, drop, Some, None, Ok, Err, Option, Result, ◌==◌, nat_le, nat_lt, slice_index}
use Rattle.std.specs.List.{prefix_len}
use Rattle.text.specs.declared.line.Line.{Line}

-- a line end, or a printable byte
abbrev pub text_byte : ℕ → Bool
text_byte b = b == 10 || (nat_le 32 b && nat_le b 126)

abbrev pub all_text : List ℕ → Bool
all_text [] = true
all_text (b ∷ bs) = text_byte b && all_text bs

-- 1 to 4,096 such bytes, a line end last
abbrev pub is_text : List ℕ → Bool
is_text t = nat_lt 0 (length t) && (nat_le (length t) 4096 && (slice_index t (length t - 1) == 10 && all_text t))

-- a byte put before the first part
abbrev pub with_byte_before : ℕ → List (List ℕ) → List (List ℕ)
with_byte_before b [] = []
with_byte_before b (l ∷ ls) = (b ∷ l) ∷ ls

-- a text cut at its line ends, byte 10: each line that one ends, and last what no line end follows
abbrev pub split : List ℕ → List (List ℕ)
split [] = [] ∷ []
split (b ∷ bs) = cond (b == 10) ([] ∷ split bs) (with_byte_before b (split bs))

-- lines as a text, each ended by byte 10
abbrev pub join_lines : List (List ℕ) → List ℕ
join_lines [] = []
join_lines (l ∷ ls) = l ++ (10 ∷ join_lines ls)

-- no line end
abbrev pub in_line : ℕ → Bool
in_line b = not (b == 10)

-- bytes without a line end
abbrev pub OneLine : List ℕ → Type 0
OneLine l = prefix_len in_line l ≡ length l

-- the place of the first line end from a place on, or the text's end
abbrev pub line_end : List ℕ → ℕ → ℕ
line_end t from = from + prefix_len in_line (drop from t)

-- the text up to the end of the line that begins at a place, with that place
abbrev pub line_at : List ℕ → ℕ → Option (List ℕ × ℕ)
line_at t from = cond (nat_lt (line_end t from) (length t)) (Some (take (line_end t from) t, from)) None

abbrev pub line_value : Option Line → Option (List ℕ × ℕ)
line_value (Some l) = Some (l.text.now, l.at)
line_value None = None

-- the bytes of a line
abbrev pub bytes : Line → List ℕ
bytes l = drop l.at l.text.now

-- a state after all lines of a text, the number that the next line would have, and what no line end follows
pub record Reading (S : Type 0) : Type 0 where
  pub state : S
  pub line : ℕ
  pub left : List ℕ

abbrev pub reading : {S : Type 0} → S → ℕ → List ℕ → Reading S
reading s n left = record { state = s; line = n; left = left }

-- takes one line after the other, the first of which has number n; stops where one is refused
abbrev pub read_lines : {S E : Type 0} → (S → ℕ → List ℕ → Result S E) → S → ℕ → List (List ℕ) → Result (Reading S) E
read_lines take s n [] = Ok (reading s n [])
read_lines take s n (l ∷ []) = Ok (reading s n l)
read_lines take s n (l ∷ m ∷ ms) = elim (take s n l) [ Ok t ↦ read_lines take t (n + 1) (m ∷ ms) | Err e ↦ Err e ]

-- what is made of a state at the end of a text, where the number is the one that the next line would have
abbrev pub end_result : {S T E : Type 0} → (ℕ → S → Result T E) → Result (Reading S) E → Result T E
end_result finish (Ok r) = finish r.line r.state
end_result finish (Err e) = Err e

-- a text read from its first line to its end, or refused where the bytes are no text
abbrev pub read_text : {S T E : Type 0} → (S → ℕ → List ℕ → Result S E) → (ℕ → S → Result T E) → S → E → List ℕ → Result T E
read_text take finish start strange text =
    cond (is_text text) (end_result finish (read_lines take start 1 (split text))) (Err strange)
