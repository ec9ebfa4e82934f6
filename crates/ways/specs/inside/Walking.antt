-- What a walk over a level does. Assumes nothing.
use Rattle.std.specs.Prelude.{◌≡◌, ℕ, Bool, cond, List, [], Ok, Err, Result}
use Rattle.refusals.specs.declared.Fault.{Fault}
use Rattle.refusals.specs.declared.Refusal.{Refusal}
use Rattle.refusals.specs.Refusals.{fault}
use Rattle.puzzle.specs.Game.{Game, Played}
use Rattle.text.specs.Reading.{map_ok}
use Rattle.text.specs.Lines.{join_lines}
use Rattle.text.specs.declared.pen.Pen.{Pen}
use Rattle.text.specs.Pens.{Writes}
use Rattle.ways.specs.declared.notation.IllegalMove.{IllegalMove}
use Rattle.ways.specs.Notations.{fault_of, Spelling}
use Rattle.ways.specs.Judging.{position_after, last_position}
use Rattle.ways.specs.Writing.{destination, move_lines}

-- why a move is refused, by what following it answers and whether the position before it is finished
abbrev pub move_judgement : Result (Unit {0}) IllegalMove → Bool → Result (Unit {0}) Fault
move_judgement (Ok _) finished = cond finished (Err (fault 44)) (Ok tt)
move_judgement (Err e) finished = Err (fault_of e)

-- what is answered of a move, and where the walk is after it; a refusal leaves it where it was
abbrev pub MovesTo : {P : Type 0} → Result P Refusal → Result (Unit {0}) Refusal → P → P → Type 0
MovesTo (Ok q) answer old new = (answer ≡ Ok tt) × (new ≡ q)
MovesTo (Err e) answer old new = (answer ≡ Err e) × (new ≡ old)

-- a move number was played
abbrev pub PlaysNumber : {P : Type 0} → Game P → ℕ → Bool → P → P → Type 0
PlaysNumber g m answer old new = Played (destination g old m) answer old new

module _ {P W : Type 0} (g : Game P) (k : Spelling P W) where
  -- a move was followed that is written on a line
  abbrev pub FollowsLine : ℕ → W → Result (Unit {0}) Refusal → P → P → Type 0
  FollowsLine line w answer old new = MovesTo (position_after g k old line w) answer old new

  -- what is answered at the end of the moves, on a line
  abbrev pub end_judgement : P → ℕ → Result (Unit {0}) Refusal
  end_judgement p line = map_ok (λ _. tt) (last_position g k p line [])

  -- the line of each move was written
  abbrev pub WritesMoves : List ℕ → Pen → Pen → Type 0
  WritesMoves ms old new = Writes (join_lines (move_lines g k g.start ms)) old new
