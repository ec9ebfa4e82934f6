-- A filled book passes the test. Assumes nothing.
use Rattle.std.proofs.Common.{◌≡◌, ℕ, ◌+◌, ◌≤◌, List, refl, ◌∙◌, subst, arith}
use Rattle.atoms.specs.Level.{Atoms, Valid}
use Rattle.pattern_databases.specs.PartMoves.{Meet, Stands, PartMove, PartMoves, here, then}
use Rattle.pattern_databases.specs.Books.{GoalEntry, Reaches, Tells, least, many, never, Filled, Passes}
use Rattle.pattern_databases.proofs.Moves.{as_many, after_stands}

module _ (l : Atoms) where
  module _ (place : ℕ) (part : List ℕ) where
    -- a byte tells at most 255
    tells_byte : {cells : List ℕ} {n : ℕ} → Tells l place part cells n → n ≤ 255
    tells_byte (least less reaches fewest) = omega arith
    tells_byte (many reaches fewest) = omega arith
    tells_byte (never none) = omega arith

    -- a goal entry reaches itself in no move
    goal_reaches : {cells : List ℕ} → GoalEntry l place part cells → Reaches l place part cells 0
    goal_reaches {cells} goal = record { goal = cells; moves = here; is_goal = goal }

    -- so its byte is 0
    goal_is_zero : {cells : List ℕ} {n : ℕ} → GoalEntry l place part cells → Tells l place part cells n → n ≡ 0
    goal_is_zero goal (least less reaches fewest) = let none = fewest 0 (goal_reaches goal) in omega arith
    goal_is_zero goal (many reaches fewest) = absurd (omega (arith, fewest 0 (goal_reaches goal)))
    goal_is_zero goal (never none) = absurd (none 0 (goal_reaches goal))

    -- where two atoms meet no moves lead to a goal entry
    meeting_closed : {cells : List ℕ} → Meet cells → (n : ℕ) → Reaches l place part cells n → ⊥
    meeting_closed {cells} meet n reaches = by reaches.moves reaches.is_goal
      where
        by : {goal : List ℕ} {n : ℕ} → PartMoves l.board cells n goal → GoalEntry l place part goal → ⊥
        by here goal = goal.apart meet
        by (then m ms) goal = m.apart meet

    -- so its byte is 255
    meeting_is_never : {cells : List ℕ} {n : ℕ} → Meet cells → Tells l place part cells n → n ≡ 255
    meeting_is_never meet (least {n = n} less reaches fewest) = absurd (meeting_closed meet n reaches)
    meeting_is_never meet (many {n = n} reaches fewest) = absurd (meeting_closed meet n reaches)
    meeting_is_never meet (never none) = refl

    module _ {cells after : List ℕ} (m : PartMove l.board cells after) where
      -- what is reached after a move is reached before it, by one move more
      one_more : {n : ℕ} → Reaches l place part after n → Reaches l place part cells (n + 1)
      one_more reaches = record { goal = reaches.goal; moves = then m reaches.moves; is_goal = reaches.is_goal }

      -- so the move lowers the byte by at most one
      falls_by_one : {n k : ℕ} → Tells l place part cells n → Tells l place part after k → n ≤ k + 1
      falls_by_one before (many reaches fewest) = omega (arith, tells_byte before)
      falls_by_one before (never none) = omega (arith, tells_byte before)
      falls_by_one (least less first fewest) (least {n = k} below reaches few) = fewest (k + 1) (one_more reaches)
      falls_by_one (many first fewest) (least {n = k} below reaches few) = fewest (k + 1) (one_more reaches)
      falls_by_one (never none) (least {n = k} below reaches few) = absurd (none (k + 1) (one_more reaches))

      -- and leads from 255 to 255 only
      stays_never : {n k : ℕ} → Tells l place part cells n → Tells l place part after k → n ≡ 255 → k ≡ 255
      stays_never (least less reaches fewest) after e = absurd (omega arith)
      stays_never (many reaches fewest) after e = absurd (omega arith)
      stays_never (never none) (least {n = k} below reaches few) e = absurd (none (k + 1) (one_more reaches))
      stays_never (never none) (many {n = k} reaches few) e = absurd (none (k + 1) (one_more reaches))
      stays_never (never none) (never still) e = refl

-- a filled book meets the four conditions
pub passes_filled : (l : Atoms) → Valid l → (bytes : List ℕ) → Filled l bytes → Passes l bytes
passes_filled l valid bytes filled = record {
  long = filled.long;
  goals = λ k cells goal. goal_is_zero l k.place k.part goal (filled.tells k cells goal.stands);
  meetings = λ k cells stands meet. meeting_is_never l k.place k.part meet (filled.tells k cells stands);
  moves = λ k cells after long m.
      let before = filled.tells k cells (subst (λ size. Stands l.board size cells) long m.stands) in
      let later = filled.tells k after
      (subst (λ size. Stands l.board size after) (as_many l.board m ∙ long)
      (after_stands l.board valid.board.whole m)) in
      (falls_by_one l k.place k.part m before later, stays_never l k.place k.part m before later);
}
