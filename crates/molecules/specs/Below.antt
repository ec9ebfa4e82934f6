-- Tests of all numbers below a bound. Assumes nothing.
use Rattle.std.specs.Prelude.{ℕ, Bool}
use Rattle.std.specs.List.{list_all, list_any, range_with_len}

-- some number below n passes
abbrev pub some_below : ℕ → (ℕ → Bool) → Bool
some_below n p = list_any p (range_with_len 0 n)

-- every number below n passes
abbrev pub every_below : ℕ → (ℕ → Bool) → Bool
every_below n p = list_all p (range_with_len 0 n)
