-- The parts that the atoms of a level fall into, each a list of atom numbers. Assumes nothing.
use Rattle.std.specs.Prelude.{ℕ, ◌+◌, ◌-◌, ◌*◌, ◌/◌, List, map, min}
use Rattle.std.specs.List.{range_with_len}

-- how many atoms a part has, but for the last one, which may have fewer
abbrev pub part_size : ℕ
part_size = 2

-- atoms 2 j and 2 j + 1 of n atoms; the last one alone where its partner is wanting
abbrev pub part_of : ℕ → ℕ → List ℕ
part_of n j = range_with_len (j * part_size) (min part_size (n - j * part_size))

-- the parts of n atoms, in order
abbrev pub part_count : ℕ → ℕ
part_count n = (n + 1) / part_size

abbrev pub parts_of : ℕ → List (List ℕ)
parts_of n = map (part_of n) (range_with_len 0 (part_count n))
