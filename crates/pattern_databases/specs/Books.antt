-- What a filled book holds, and which books pass the test. Assumes nothing.
use Rattle.std.specs.Prelude.{◌≡◌, ℕ, ◌+◌, ◌<◌, ◌≤◌, List, length, slice_index}
use Rattle.refusals.specs.declared.Fault.{Fault}
use Rattle.refusals.specs.Refusals.{fault}
use Rattle.molecules.specs.GoalPlaces.{LiesOver}
use Rattle.atoms.specs.Board.{labels_of}
use Rattle.atoms.specs.Level.{Atoms}
use Rattle.pattern_databases.specs.PartMoves.{Meet, Stands, PartMove, PartMoves}
use Rattle.pattern_databases.specs.Layout.{book_length, Block, entry}

module _ (l : Atoms) where
  module _ (place : ℕ) (part : List ℕ) where
    -- where the molecule lies on this goal place, each atom of the part stands on a cell of its label, no two on one
    pub record GoalEntry (cells : List ℕ) : Type 0 where
      pub stands : Stands l.board (length part) cells
      pub apart : Meet cells → ⊥
      pub fits : (i : ℕ) → i < length part
          → LiesOver l.board l.molecule place (slice_index cells i) (slice_index (labels_of l.board) (slice_index part i))

    -- so many part moves lead to a goal entry
    pub record Reaches (cells : List ℕ) (n : ℕ) : Type 0 where
      pub goal : List ℕ
      pub moves : PartMoves l.board cells n goal
      pub is_goal : GoalEntry goal

    -- What a byte tells of a placement.
    pub data Tells (cells : List ℕ) : ℕ → Type 0 where
      -- n part moves lead to a goal entry, and no fewer do
      least : {n : ℕ} → n < 254 → Reaches cells n → ((k : ℕ) → Reaches cells k → n ≤ k) → Tells cells n
      -- some lead there, and no fewer than 254 do
      many : {n : ℕ} → Reaches cells n → ((k : ℕ) → Reaches cells k → 254 ≤ k) → Tells cells 254
      -- none lead there
      never : ((n : ℕ) → Reaches cells n → ⊥) → Tells cells 255

  -- so long, and each byte tells of its placement
  pub record Filled (bytes : List ℕ) : Type 0 where
    pub long : length bytes ≡ book_length l
    pub tells : (k : Block l) (cells : List ℕ) → Stands l.board (length k.part) cells
        → Tells k.place k.part cells (entry l bytes k cells)

  -- The four conditions of the test.

  abbrev pub HasLength : List ℕ → Type 0
  HasLength bytes = length bytes ≡ book_length l

  -- every goal entry is 0
  abbrev pub GoalsAreZero : List ℕ → Type 0
  GoalsAreZero bytes = (k : Block l) (cells : List ℕ) → GoalEntry k.place k.part cells → entry l bytes k cells ≡ 0

  -- every entry with two atoms on one cell is 255
  abbrev pub MeetingsAreClosed : List ℕ → Type 0
  MeetingsAreClosed bytes =
      (k : Block l) (cells : List ℕ) → Stands l.board (length k.part) cells → Meet cells → entry l bytes k cells ≡ 255

  -- a part move lowers an entry by at most one, and leads from 255 to 255 only
  abbrev pub MovesAreConsistent : List ℕ → Type 0
  MovesAreConsistent bytes =
      (k : Block l) (cells after : List ℕ) → length cells ≡ length k.part → PartMove l.board cells after
      → (entry l bytes k cells ≤ entry l bytes k after + 1) × (entry l bytes k cells ≡ 255 → entry l bytes k after ≡ 255)

  pub record Passes (bytes : List ℕ) : Type 0 where
    pub long : HasLength bytes
    pub goals : GoalsAreZero bytes
    pub meetings : MeetingsAreClosed bytes
    pub moves : MovesAreConsistent bytes

  -- Why a book is refused: by the first condition that it does not meet.
  pub data Fails (bytes : List ℕ) : Fault → Type 0 where
    length_fails : (HasLength bytes → ⊥) → Fails bytes (fault 22)
    goals_fail : HasLength bytes → (GoalsAreZero bytes → ⊥) → Fails bytes (fault 23)
    meetings_fail : HasLength bytes → GoalsAreZero bytes → (MeetingsAreClosed bytes → ⊥) → Fails bytes (fault 24)
    moves_fail : HasLength bytes → GoalsAreZero bytes → MeetingsAreClosed bytes → (MovesAreConsistent bytes → ⊥)
        → Fails bytes (fault 25)
