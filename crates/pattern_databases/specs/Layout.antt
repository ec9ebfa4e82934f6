-- Where each byte of a book lies. Assumes nothing.
use Rattle.std.specs.Prelude.{◌≡◌, ℕ, ◌+◌, ◌*◌, ◌^◌, List, [], ◌∷◌, length, map, take, sum, slice_index, slice_get, Some}
use Rattle.pictures.specs.Pictures.{Shape}
use Rattle.molecules.specs.GoalPlaces.{goal_places}
use Rattle.atoms.specs.Level.{Atoms, count}
use Rattle.pattern_databases.specs.Floor.{free_count, free_number}
use Rattle.pattern_databases.specs.Parts.{parts_of}

-- the number of a placement among those of its part: the cell of its first atom counts most
abbrev pub placement_number : Shape → List ℕ → ℕ
placement_number b [] = 0
placement_number b (cell ∷ cells) = free_number b cell * free_count b ^ length cells + placement_number b cells

module _ (l : Atoms) where
  abbrev pub places : List ℕ
  places = goal_places l.board l.molecule

  abbrev pub parts : List (List ℕ)
  parts = parts_of (count l)

  -- a byte for each placement of a part
  abbrev pub block_length : List ℕ → ℕ
  block_length part = free_count l.board ^ length part

  -- the bytes of one goal place, and of the first j parts there
  abbrev pub first_blocks : ℕ → ℕ
  first_blocks j = sum (map block_length (take j parts))

  abbrev pub place_length : ℕ
  place_length = sum (map block_length parts)

  abbrev pub book_length : ℕ
  book_length = length places * place_length

  -- the bytes of one goal place and one part: these come goal place by goal place, and then part by part
  pub record Block : Type 0 where
    pub place_number : ℕ
    pub place : ℕ
    pub place_is : slice_get places place_number ≡ Some place
    pub part_number : ℕ
    pub part : List ℕ
    pub part_is : slice_get parts part_number ≡ Some part

  abbrev pub block_start : ℕ → ℕ → ℕ
  block_start g j = g * place_length + first_blocks j

  -- the byte for a placement of the part with number j, at the goal place with number g
  abbrev pub entry_at : List ℕ → ℕ → ℕ → List ℕ → ℕ
  entry_at bytes g j cells = slice_index bytes (block_start g j + placement_number l.board cells)

  abbrev pub entry : List ℕ → Block → List ℕ → ℕ
  entry bytes k = entry_at bytes k.place_number k.part_number
