-- The bytes of one block of a book: of one goal place and one part. Assumes nothing.
use Rattle.std.specs.Prelude.{◌≡◌, ℕ, ◌+◌, ◌^◌, ◌<◌, ◌≤◌, List, length, slice_index}
use Rattle.atoms.specs.Level.{Atoms, count}
use Rattle.pattern_databases.specs.Floor.{free_count}
use Rattle.pattern_databases.specs.PartMoves.{Meet, Stands, PartMove}
use Rattle.pattern_databases.specs.Layout.{placement_number}
use Rattle.pattern_databases.specs.Books.{GoalEntry, Tells, GoalsAreZero, MeetingsAreClosed, MovesAreConsistent}
use Rattle.pattern_databases.specs.declared.condition.Condition.{Condition}
use Rattle.pattern_databases.specs.declared.condition.Condition.TheVariants.{Goals, Meetings, Moves}

-- the numbers of the placements of so many atoms fit a queue of 32-bit numbers
abbrev pub Small : Atoms → ℕ → Type 0
Small l size = free_count l.board ^ size ≤ 4294967296

-- one to 16 atoms, all of them the level's
pub record IsPart (l : Atoms) (part : List ℕ) : Type 0 where
  pub some : 1 ≤ length part
  pub few : length part ≤ 16
  pub atoms : (i : ℕ) → i < length part → slice_index part i < count l
  pub small : Small l (length part)

-- one of the bytes of a block is for this placement
pub record ByteFor (l : Atoms) (part entries cells : List ℕ) (number : ℕ) : Type 0 where
  pub whole : length entries ≡ free_count l.board ^ length part
  pub stands : Stands l.board (length part) cells
  pub numbered : placement_number l.board cells ≡ number

module _ (l : Atoms) (place : ℕ) (part : List ℕ) where
  module _ (entries : List ℕ) where
    -- the byte for a placement
    abbrev pub local : List ℕ → ℕ
    local cells = slice_index entries (placement_number l.board cells)

    abbrev pub FilledBlock : Type 0
    FilledBlock = (cells : List ℕ) → Stands l.board (length part) cells → Tells l place part cells (local cells)

    -- a move lowers the byte by at most one, and leads from 255 to 255 only
    abbrev pub IsConsistent : List ℕ → List ℕ → Type 0
    IsConsistent cells after = (local cells ≤ local after + 1) × (local cells ≡ 255 → local after ≡ 255)

    -- the block meets a condition of the test at one placement
    abbrev pub MeetsAt : Condition → List ℕ → Type 0
    MeetsAt Goals cells = GoalEntry l place part cells → local cells ≡ 0
    MeetsAt Meetings cells = Stands l.board (length part) cells → Meet cells → local cells ≡ 255
    MeetsAt Moves cells =
        (after : List ℕ) → length cells ≡ length part → PartMove l.board cells after → IsConsistent cells after

    -- and at every one
    abbrev pub Meets : Condition → Type 0
    Meets condition = (cells : List ℕ) → MeetsAt condition cells

-- every block of a book meets a condition
abbrev pub MeetsAll : Atoms → List ℕ → Condition → Type 0
MeetsAll l bytes Goals = GoalsAreZero l bytes
MeetsAll l bytes Meetings = MeetingsAreClosed l bytes
MeetsAll l bytes Moves = MovesAreConsistent l bytes
