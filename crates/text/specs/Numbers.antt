-- Numbers below ten millions in decimal, with no zero in front. Assumes nothing.
use Rattle.std.specs.Prelude.{◌≡◌, ℕ, ◌+◌, ◌-◌, ◌*◌, ◌<◌, cond, List, [], ◌∷◌, length, Some, None, decimal, Option, ◌==◌, nat_le, nat_lt, slice_index}

abbrev pub digit : ℕ → Option ℕ
digit b = cond (nat_le 48 b) (cond (nat_le b 57) (Some (b - 48)) None) None

-- one digit more after n
abbrev pub with_digit : ℕ → Option ℕ → Option ℕ
with_digit n (Some d) = cond (nat_lt n 1000000) (Some (n * 10 + d)) None
with_digit n None = None

-- what the digits write after n
abbrev pub digits_after : ℕ → List ℕ → Option ℕ
digits_after n [] = Some n
digits_after n (c ∷ cs) = elim (with_digit n (digit c)) [ Some m ↦ digits_after m cs | None ↦ None ]

abbrev pub read_number : List ℕ → Option ℕ
read_number text =
    cond (length text == 0) None
    (cond (slice_index text 0 == 48) (cond (length text == 1) (Some 0) None) (digits_after 0 text))

-- what is read of a text is n exactly where the text is n in decimal, and n is below ten millions
pub record NumbersReadBack : Type 0 where
  pub all : (n : ℕ) → n < 10000000 → read_number (decimal n) ≡ Some n
  pub only : (t : List ℕ) (n : ℕ) → read_number t ≡ Some n → (decimal n ≡ t) × (n < 10000000)
