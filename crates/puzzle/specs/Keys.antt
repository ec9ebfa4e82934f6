-- How the numbers that make up a position are mixed to a key. Assumes nothing.
use Rattle.std.specs.Prelude.{ℕ, ◌+◌, ◌*◌, ◌/◌, ◌%◌, ◌^◌}

-- 2 ^ 64 over the golden ratio, an odd number whose multiples spread well
abbrev pub spread : ℕ
spread = 11400714819323198485

-- one number more
abbrev pub sum_with : ℕ → ℕ → ℕ
sum_with sum number = (sum + number) % 2 ^ 64 * spread % 2 ^ 64

-- the key that a sum makes: its high half, where each number that was mixed in has moved every bit
abbrev pub key_of : ℕ → ℕ
key_of sum = sum / 2 ^ 32
