-- Which bytes of a book are a position's, and what they sum up to. Assumes nothing.
use Rattle.std.specs.Prelude.{ℕ, ◌+◌, ◌*◌, ◌<◌, ◌≤◌, List, [], length, map, Some, None, Option, slice_index, slice_index_or}
use Rattle.std.specs.List.{range_with_len, All}
use Rattle.atoms.specs.declared.position.Position.{Position}
use Rattle.atoms.specs.Level.{Atoms, count}
use Rattle.pattern_databases.specs.Floor.{IsFree}
use Rattle.pattern_databases.specs.Layout.{places, parts, place_length, first_blocks, placement_number}
use Rattle.pattern_databases.specs.Meaning.{sum_of, least_of, cells_of}

-- a sum is at least so much, or there is none
abbrev pub AtLeast : ℕ → Option ℕ → Type 0
AtLeast limit (Some sum) = limit ≤ sum
AtLeast limit None = Unit {0}

module _ (l : Atoms) where
  -- every atom stands on a free cell
  abbrev pub OnFree : Position → Type 0
  OnFree p = (a : ℕ) → a < count l → IsFree l.board (slice_index p.cells a)

  -- which byte of each goal place is a position's, for the part with number j
  abbrev pub location : Position → ℕ → ℕ
  location p j = first_blocks l j + placement_number l.board (cells_of p (slice_index_or (parts l) j []))

  abbrev pub locations : Position → List ℕ
  locations p = map (location p) (range_with_len 0 (length (parts l)))

  -- all are among the bytes of a goal place
  abbrev pub Inside : List ℕ → Type 0
  Inside entries = All (λ e. e < place_length l) entries

  module _ (bytes entries : List ℕ) where
    -- the sum of these bytes of the goal place with number g
    abbrev pub sum_at : ℕ → Option ℕ
    sum_at g = sum_of (map (λ e. slice_index bytes (g * place_length l + e)) entries)

    -- the least over the goal places
    abbrev pub least_sum : Option ℕ
    least_sum = least_of (map sum_at (range_with_len 0 (length (places l))))
