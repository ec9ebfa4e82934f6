-- An atom level as a puzzle with the bound of a book. Assumes nothing.
use Rattle.std.specs.Prelude.{ℕ, ◌+◌, cond, List, [], ◌∷◌, length, map, Some, None, Option, option_map, ◌==◌, min, slice_index, slice_index_or}
use Rattle.std.specs.List.{range_with_len}
use Rattle.puzzle.specs.Meaning.{Meaning}
use Rattle.atoms.specs.declared.position.Position.{Position}
use Rattle.atoms.specs.Level.{Atoms, game}
use Rattle.atoms.specs.Meaning as bare
use Rattle.pattern_databases.specs.Layout.{places, parts, entry_at}

-- an atom level as a puzzle with another bound
abbrev pub with_bound : Atoms → (Position → Option ℕ) → Meaning Position
with_bound l bound = record {
  game = game l;
  lower_bound = bound;
  key = (bare.meaning l).key;
  same = (bare.meaning l).same;
}

-- the sum with one byte more, and none where that is 255
abbrev pub with_byte : ℕ → Option ℕ → Option ℕ
with_byte n sum = cond (n == 255) None (option_map (λ s. n + s) sum)

-- the sum of the bytes, and none where one of them is 255
abbrev pub sum_of : List ℕ → Option ℕ
sum_of [] = Some 0
sum_of (n ∷ ns) = with_byte n (sum_of ns)

-- the lesser of two sums, of which either may be none
abbrev pub lesser : Option ℕ → Option ℕ → Option ℕ
lesser (Some a) (Some b) = Some (min a b)
lesser (Some a) None = Some a
lesser None o = o

-- the least of the sums that are there
abbrev pub least_of : List (Option ℕ) → Option ℕ
least_of [] = None
least_of (o ∷ os) = lesser o (least_of os)

-- where the atoms of a part stand
abbrev pub cells_of : Position → List ℕ → List ℕ
cells_of p part = map (λ atom. slice_index p.cells atom) part

module _ (l : Atoms) (bytes : List ℕ) where
  -- the byte of a position at the goal place with number g, for the part with number j: that for where its atoms stand
  abbrev pub byte_of : Position → ℕ → ℕ → ℕ
  byte_of p g j = entry_at l bytes g j (cells_of p (slice_index_or (parts l) j []))

  -- the sum over the parts is a bound for this goal place; there is none where a byte is 255
  abbrev pub place_bound : Position → ℕ → Option ℕ
  place_bound p g = sum_of (map (byte_of p g) (range_with_len 0 (length (parts l))))

  -- the least over the goal places; where there is none, the position is dead
  abbrev pub bound : Position → Option ℕ
  bound p = least_of (map (place_bound p) (range_with_len 0 (length (places l))))

  abbrev pub meaning : Meaning Position
  meaning = with_bound l bound
