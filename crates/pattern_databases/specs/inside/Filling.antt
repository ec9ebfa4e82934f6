-- Filling a block breadth first, by the numbers of its placements. Assumes nothing.
use Rattle.std.specs.Prelude.{◌≡◌, ◌≢◌, ℕ, ◌+◌, ◌-◌, ◌<◌, ◌≤◌, Bool, not, cond, List, length, min, count_by, Some, None, Option, ◌==◌, slice_index, slice_set}
use Rattle.atoms.specs.Level.{Atoms}
use Rattle.pattern_databases.specs.PartMoves.{PartMove}
use Rattle.pattern_databases.specs.Layout.{placement_number}
use Rattle.pattern_databases.specs.Books.{GoalEntry}
use Rattle.pattern_databases.specs.declared.block.filling.Frontier.{Frontier}

-- the bytes, and the placements that are reached, in the order in which they were
pub record Front : Type 0 where
  pub entries : List ℕ
  pub queue : List ℕ
  pub reached : ℕ

abbrev pub front : Frontier → Front
front f = record { entries = f.entries.now; queue = f.queue.now; reached = f.reached }

abbrev pub entry_in : Front → ℕ → ℕ
entry_in f n = slice_index f.entries n

abbrev pub queued : Front → ℕ → ℕ
queued f i = slice_index f.queue i

-- a byte is that of a placement that is reached
abbrev pub is_reached : ℕ → Bool
is_reached byte = not (byte == 255)

-- there is a place in the queue for each placement, and a number of 32 bits; as many are in the queue as are reached
pub record HasRoom (f : Front) : Type 0 where
  pub small : length f.entries ≤ 4294967296
  pub room : length f.entries ≤ length f.queue
  pub counted : f.reached ≡ count_by is_reached f.entries

-- a placement is reached with so many moves, if it was not reached before
abbrev pub after_reach : ℕ → ℕ → Front → Front
after_reach n moves f =
    cond (is_reached (entry_in f n)) f
    (record { entries = slice_set f.entries n moves; queue = slice_set f.queue f.reached n; reached = f.reached + 1 })

-- the lent bytes and the lent queue are the same, of the same lengths, and as many placements are taken
pub record Keeps (old new : Frontier) : Type 0 where
  pub taken : new.taken ≡ old.taken
  pub entries : new.entries.ghost_name ≡ old.entries.ghost_name
  pub queue : new.queue.ghost_name ≡ old.queue.ghost_name
  pub whole : length new.entries.now ≡ length old.entries.now

-- the first placement of the queue that was not taken is taken, if there is one
pub record TakesOne (old : Frontier) (n : ℕ) (new : Frontier) : Type 0 where
  pub more : old.taken < old.reached
  pub number : n ≡ queued (front old) old.taken
  pub taken : new.taken ≡ old.taken + 1
  pub same : front new ≡ front old
  pub entries : new.entries.ghost_name ≡ old.entries.ghost_name
  pub queue : new.queue.ghost_name ≡ old.queue.ghost_name

abbrev pub Takes : Frontier → Option ℕ → Frontier → Type 0
Takes old (Some n) new = TakesOne old n new
Takes old None new = (old.taken ≡ old.reached) × (new ≡ old)

-- nothing is reached yet
pub record IsFresh (f : Front) : Type 0 where
  pub has_room : HasRoom f
  pub none : (n : ℕ) → n < length f.entries → entry_in f n ≡ 255
  pub empty : f.reached ≡ 0

module _ (near : ℕ → ℕ → Type 0) (goal : ℕ → Type 0) where
  -- so many moves lead from a number to a goal
  pub data Steps : ℕ → ℕ → Type 0 where
    here : {n : ℕ} → goal n → Steps n 0
    then : {n m k : ℕ} → near n m → Steps m k → Steps n (k + 1)

  -- What is known of the bytes while a block is filled: the goals below `goals` are reached, and so are those from
  -- which a move leads to one of the first `done` in the queue.
  pub record Searched (f : Front) (goals done : ℕ) : Type 0 where
    pub has_room : HasRoom f
    pub told : (n : ℕ) → n < length f.entries → entry_in f n ≢ 255 → (k : ℕ) × Steps n k × (entry_in f n ≡ min k 254)
    pub goal_entries : (n : ℕ) → n < goals → goal n → entry_in f n ≡ 0
    pub in_done : done ≤ f.reached
    pub near_done : (i n : ℕ) → i < done → near n (queued f i) → entry_in f n ≤ min (entry_in f (queued f i) + 1) 254
    pub all_queued : (n : ℕ) → n < length f.entries → entry_in f n ≢ 255 → (i : ℕ) × (i < f.reached) × (queued f i ≡ n)
    pub in_queue : (i : ℕ) → i < f.reached → (queued f i < length f.entries) × (entry_in f (queued f i) ≢ 255)
    pub rising : (i j : ℕ) → i ≤ j → j < f.reached → entry_in f (queued f i) ≤ entry_in f (queued f j)
    pub close : (j : ℕ) → j < f.reached → done < f.reached
        → entry_in f (queued f j) ≤ min (entry_in f (queued f done) + 1) 254

-- one part move leads from the placement with one number to that with another
pub record Near (l : Atoms) (part : List ℕ) (from to : ℕ) : Type 0 where
  pub cells : List ℕ
  pub after : List ℕ
  pub long : length cells ≡ length part
  pub move : PartMove l.board cells after
  pub from_is : placement_number l.board cells ≡ from
  pub to_is : placement_number l.board after ≡ to

module _ (l : Atoms) (place : ℕ) (part : List ℕ) where
  -- the number of a goal entry
  pub record IsGoal (n : ℕ) : Type 0 where
    pub cells : List ℕ
    pub goal : GoalEntry l place part cells
    pub number_is : placement_number l.board cells ≡ n

  abbrev pub SearchedBlock : Front → ℕ → ℕ → Type 0
  SearchedBlock = Searched (Near l part) IsGoal

  -- the first of those that are not done was taken last; it is the one with this number
  pub record TakenLast (f : Frontier) (n : ℕ) : Type 0 where
    pub some : 0 < f.taken
    pub searched : SearchedBlock (front f) (length f.entries.now) (f.taken - 1)
    pub more : f.taken - 1 < f.reached
    pub number : queued (front f) (f.taken - 1) ≡ n
