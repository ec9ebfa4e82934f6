-- A way as text, from a list of move numbers. Assumes nothing.
use Rattle.std.specs.Prelude.{◌≡◌, ℕ, ◌+◌, ◌*◌, ◌≤◌, Bool, cond, ◌&&◌, List, [], ◌∷◌, ◌++◌, length, drop, Some, None, Ok, Err, Option, Result, nat_le, nat_lt}
use Rattle.refusals.specs.declared.Refusal.{Refusal}
use Rattle.refusals.specs.Refusals.{refused}
use Rattle.puzzle.specs.Game.{Game, Solves}
use Rattle.text.specs.Lines.{join_lines}
use Rattle.text.specs.Reading.{map_ok}
use Rattle.text.specs.Forms.{count_line, closing}
use Rattle.ways.specs.Notations.{longest_line, Spelling}
use Rattle.ways.specs.Judging.{way_keyword, judgement}

module _ {P : Type 0} (g : Game P) where
  -- where a move number leads: none past the last number, and none where the move is closed
  abbrev pub destination : P → ℕ → Option P
  destination p m = cond (nat_lt m g.count) (g.move p m) None

  -- where all moves lead, or the refusal of the first that is closed; the first move has line n
  abbrev pub last_destination : P → ℕ → List ℕ → Result P Refusal
  last_destination p n [] = Ok p
  last_destination p n (m ∷ ms) =
      elim (destination p m) [ Some q ↦ last_destination q (n + 1) ms | None ↦ Err (refused 43 n) ]

  -- whether all moves are open
  abbrev pub move_check : List ℕ → Result (Unit {0}) Refusal
  move_check ms = map_ok (λ _. tt) (last_destination g.start 2 ms)

  -- each move is open where it is played
  abbrev pub Playable : List ℕ → Type 0
  Playable ms = move_check ms ≡ Ok tt

module _ {P W : Type 0} (g : Game P) (k : Spelling P W) where
  -- the line of each move
  abbrev pub move_lines : P → List ℕ → List (List ℕ)
  move_lines p [] = []
  move_lines p (m ∷ ms) = elim (destination g p m) [ Some q ↦ k.line p m ∷ move_lines q ms | None ↦ [] ]

  abbrev pub way_text : List ℕ → List ℕ
  way_text ms = join_lines (count_line way_keyword (length ms) ∷ (move_lines g.start ms ++ (closing ∷ [])))

  -- at most 9,999,999 moves, and room for their text
  abbrev pub fits : List ℕ → List ℕ → Bool
  fits ms out = nat_le (length ms) 9999999 && nat_le (length (way_text ms)) (length out)

  -- how long the text is that was written, or why none was
  abbrev pub written_length : List ℕ → List ℕ → Result ℕ Refusal
  written_length ms out =
      elim (move_check g ms) [
        | Ok _ ↦ cond (fits ms out) (Ok (length (way_text ms))) (Err (refused 21 0))
        | Err e ↦ Err e
      ]

  -- the buffer after it
  abbrev pub buffer_after : List ℕ → List ℕ → List ℕ
  buffer_after ms out = elim (written_length ms out) [ Ok n ↦ way_text ms ++ drop n out | Err e ↦ out ]

  -- what is written of moves that solve the level is a way that the judge accepts
  abbrev pub WritesAccepted : List ℕ → Type 0
  WritesAccepted ms = Solves g g.start ms → length ms ≤ 9999999 → judgement g k (way_text ms) ≡ Ok (length ms)

  -- The text of n moves is no longer than n + 1 of the longest lines with their ends: the head and the closing bracket
  -- take no more than one.
  abbrev pub IsShort : List ℕ → Type 0
  IsShort ms = length ms ≤ 9999999 → length (way_text ms) ≤ (length ms + 1) * (longest_line + 1)
