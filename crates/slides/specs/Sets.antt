-- Sets of the cells 0 to 255, a bit for each in words of 64. Assumes nothing.
use Rattle.std.specs.Prelude.{◌≡◌, ℕ, ◌/◌, ◌%◌, ◌^◌, Bool, false, cond, ◌||◌, ◌==◌, nat_lt, slice_index}
use Rattle.slides.specs.declared.cell_set.CellSet.{CellSet}

-- whether bit k of a number is set
abbrev pub bit : ℕ → ℕ → Bool
bit n k = n / 2 ^ k % 2 == 1

-- whether a cell is in a set; no cell past 255 is in one
unfoldable pub has : CellSet → ℕ → Bool
has s cell = cond (nat_lt cell 256) (bit (slice_index s.words (cell / 64)) (cell % 64)) false

abbrev pub IsEmpty : CellSet → Type 0
IsEmpty s = (k : ℕ) → has s k ≡ false

-- the same set with one cell more
abbrev pub Inserts : ℕ → CellSet → CellSet → Type 0
Inserts cell s t = (k : ℕ) → has t k ≡ (k == cell || has s k)
