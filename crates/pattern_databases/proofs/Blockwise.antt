-- A book is filled, and meets a condition, where each of its blocks is and does. Assumes nothing.
use Rattle.std.proofs.Common.{◌≡◌, ℕ, ◌+◌, ◌*◌, ◌^◌, ◌<◌, ◌≤◌, ◌↔◌, List, length, sym, ◌∙◌, subst, arith}
use Rattle.std.proofs.lemmas.List.Edits.{get_or-between}
use Rattle.atoms.specs.Level.{Atoms}
use Rattle.pattern_databases.specs.Floor.{free_count}
use Rattle.pattern_databases.specs.PartMoves.{Meet, Stands, PartMove}
use Rattle.pattern_databases.specs.Layout.{placement_number, book_length, block_start, entry, Block}
use Rattle.pattern_databases.specs.Books.{GoalEntry, Tells, Filled}
use Rattle.pattern_databases.specs.inside.Blocks.{FilledBlock, Meets, MeetsAll, local}
use Rattle.pattern_databases.specs.declared.condition.Condition.{Condition}
use Rattle.pattern_databases.specs.declared.condition.Condition.TheVariants.{Goals, Meetings, Moves}
use Rattle.pattern_databases.proofs.Placements.{number_below}
use Rattle.pattern_databases.proofs.Moves.{as_many, after_stands}
use Rattle.pattern_databases.proofs.BookBlocks.{bytes_of}

module _ (l : Atoms) where
  module _ (bytes : List ℕ) (k : Block l) where
    -- the byte for a placement, in its block and in the book
    entry_local : (cells : List ℕ) → Stands l.board (length k.part) cells
        → local l k.place k.part (bytes_of l bytes k) cells ≡ entry l bytes k cells
    entry_local cells stands =
        let start = block_start l k.place_number k.part_number in
        let f = free_count l.board in
        let below = subst (λ n. placement_number l.board cells < f ^ n) stands.long
        (number_below l.board cells (subst (λ n. Stands l.board n cells) (sym stands.long) stands)) in
        get_or-between bytes start (start + f ^ length k.part) (placement_number l.board cells) 0 (omega arith)

  -- each block is filled
  pub filled_from : (bytes : List ℕ) → length bytes ≡ book_length l
      → ((k : Block l) → FilledBlock l k.place k.part (bytes_of l bytes k)) → Filled l bytes
  filled_from bytes long each = record {
    long = long;
    tells = λ k cells stands. subst (Tells l k.place k.part cells) (entry_local bytes k cells stands) (each k cells stands);
  }

  -- a condition of the test, as what is said of the bytes of a block
  abbrev pub meeting : Condition → ℕ → List ℕ → List ℕ → Type 0
  meeting condition place part entries = Meets l place part entries condition

  -- what a condition says of the bytes for the placements of a part
  module _ (place : ℕ) (part : List ℕ) where
    abbrev Says : (List ℕ → ℕ) → Condition → Type 0
    Says byte Goals = (cells : List ℕ) → GoalEntry l place part cells → byte cells ≡ 0
    Says byte Meetings = (cells : List ℕ) → Stands l.board (length part) cells → Meet cells → byte cells ≡ 255
    Says byte Moves =
        (cells after : List ℕ) → length cells ≡ length part → PartMove l.board cells after
        → (byte cells ≤ byte after + 1) × (byte cells ≡ 255 → byte after ≡ 255)

    -- it says the same of the same bytes
    says_same : length l.board.cells ≡ l.board.width * l.board.height → (one other : List ℕ → ℕ)
        → ((cells : List ℕ) → Stands l.board (length part) cells → one cells ≡ other cells)
        → (condition : Condition) → Says one condition → Says other condition
    says_same sized one other same Goals says = λ cells goal. sym (same cells goal.stands) ∙ says cells goal
    says_same sized one other same Meetings says = λ cells stands meet. sym (same cells stands) ∙ says cells stands meet
    says_same sized one other same Moves says = λ cells after long move.
        let before = same cells (subst (λ n. Stands l.board n cells) long move.stands) in
        let behind = same after (subst (λ n. Stands l.board n after) (as_many l.board move ∙ long) (after_stands l.board sized move)) in
        let holds = says cells after long move in
        (omega (arith, holds.0), λ never. sym behind ∙ holds.1 (before ∙ never))

  module _ (sized : length l.board.cells ≡ l.board.width * l.board.height) (bytes : List ℕ) where
    -- all meet it where each does
    all_each : (condition : Condition) → MeetsAll l bytes condition ↔ ((k : Block l) → Says k.place k.part (entry l bytes k) condition)
    all_each Goals = (λ all. all, λ each. each)
    all_each Meetings = (λ all. all, λ each. each)
    all_each Moves = (λ all. all, λ each. each)

    block_says : (k : Block l) (condition : Condition)
        → Meets l k.place k.part (bytes_of l bytes k) condition ↔ Says k.place k.part (local l k.place k.part (bytes_of l bytes k)) condition
    block_says k Goals = (λ meets. meets, λ says. says)
    block_says k Meetings = (λ meets. meets, λ says. says)
    block_says k Moves = (λ meets. meets, λ says. says)

    pub meets_all : (condition : Condition) → ((k : Block l) → Meets l k.place k.part (bytes_of l bytes k) condition) → MeetsAll l bytes condition
    meets_all condition each =
        (all_each condition).1
        (λ k. says_same k.place k.part sized (local l k.place k.part (bytes_of l bytes k)) (entry l bytes k) (entry_local bytes k) condition
        ((block_says k condition).0 (each k)))

    -- and then each does
    pub meets_each : (condition : Condition) → MeetsAll l bytes condition → (k : Block l) → Meets l k.place k.part (bytes_of l bytes k) condition
    meets_each condition all k =
        (block_says k condition).1
        (says_same k.place k.part sized (entry l bytes k) (local l k.place k.part (bytes_of l bytes k)) (λ cells stands. sym (entry_local bytes k cells stands)) condition
        ((all_each condition).0 all k))
