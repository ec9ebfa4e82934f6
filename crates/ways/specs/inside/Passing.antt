-- The judge in one pass over the lines: the form goes on being read while the moves are followed. Assumes nothing.
use Rattle.std.specs.Prelude.{◌≡◌, ℕ, ◌+◌, ◌-◌, cond, Some, None, Ok, Err, IfOk, List, [], length, Option, Result, ◌==◌}
use Rattle.refusals.specs.declared.Refusal.{Refusal}
use Rattle.refusals.specs.Refusals.{refusal, refused}
use Rattle.puzzle.specs.Game.{Game}
use Rattle.text.specs.Lines.{Reading}
use Rattle.text.specs.Reading.{map_ok}
use Rattle.text.specs.Forms.{count_of, is_closing}
use Rattle.ways.specs.declared.progress.Moves.{Moves}
use Rattle.ways.specs.declared.progress.Progress.{Progress}
use Rattle.ways.specs.declared.progress.Progress.TheVariants as progress
use Rattle.ways.specs.Notations.{Spelling}
use Rattle.ways.specs.Judging.{way_keyword, position_after, last_position}

-- how far a way has been read, and the position before the first refused move
pub record Pass (P : Type 0) : Type 0 where
  pub progress : Progress
  pub position : P

abbrev pub pass : {P : Type 0} → Progress → P → Pass P
pass progress position = record { progress = progress; position = position }

-- the moves of a way that announces so many
abbrev pub moves : ℕ → Option Refusal → Moves
moves announced refusal = record { announced = announced; refusal = refusal }

-- after a move that leads to a position, or is refused
abbrev pub pass_after_move : {P : Type 0} → ℕ → P → Result P Refusal → Pass P
pass_after_move n p (Ok q) = pass (progress.Moves (moves n None)) q
pass_after_move n p (Err e) = pass (progress.Moves (moves n (Some e))) p

module _ {P W : Type 0} (g : Game P) (k : Spelling P W) where
  -- after a move on line i; only the first refusal is kept
  abbrev pub pass_with_move : ℕ → Option Refusal → P → ℕ → W → Pass P
  pass_with_move n None p i w = pass_after_move n p (position_after g k p i w)
  pass_with_move n (Some e) p i w = pass (progress.Moves (moves n (Some e))) p

  -- moves were followed so, from a position to another
  abbrev pub PassesMove : ℕ → W → Moves → P → Moves → P → Type 0
  PassesMove i w old p new q = pass (progress.Moves new) q ≡ pass_with_move old.announced old.refusal p i w

  -- after line i, where the head, a move or the closing bracket, or nothing is due
  abbrev pub pass_after : Progress → P → ℕ → List ℕ → Result (Pass P) Refusal
  pass_after progress.Head p i l =
      elim (count_of way_keyword l) [
        | Some n ↦ Ok (pass (progress.Moves (moves n None)) p)
        | None ↦ Err (refused 41 i)
      ]
  pass_after (progress.Moves m) p i l =
      cond (is_closing l) (Ok (pass (progress.Closed m) p))
      (elim (k.reading l) [
        | Some w ↦ Ok (pass_with_move m.announced m.refusal p i w)
        | None ↦ Err (refused 41 i)
      ])
  pass_after (progress.Closed m) p i l = Err (refused 41 i)

  abbrev pub next_pass : Pass P → ℕ → List ℕ → Result (Pass P) Refusal
  next_pass s = pass_after s.progress s.position

  -- where the moves end that come from line i on, if none before was refused
  abbrev pub end_from : Option Refusal → P → ℕ → List W → Result P Refusal
  end_from None p i ws = last_position g k p i ws
  end_from (Some e) p i ws = Err e

  -- what is said of a way in form, whose closing bracket has this line; the head has one too, and all others are moves
  abbrev pub moves_conclusion : Moves → P → ℕ → Result ℕ Refusal
  moves_conclusion m p line =
      cond (m.announced + 2 == line) (map_ok (λ _. m.announced) (end_from m.refusal p line [])) (Err (refused 41 1))

  -- the end of the text, where line i would come next and these bytes are left
  abbrev pub conclusion : Pass P → ℕ → List ℕ → Result ℕ Refusal
  conclusion s i left =
      elim s.progress [
        | progress.Head ↦ Err (refused 41 i)
        | progress.Moves m ↦ Err (refused 41 i)
        | progress.Closed m ↦ cond (length left == 0) (moves_conclusion m s.position (i - 1)) (Err (refused 41 i))
      ]

  abbrev pub pass_conclusion : Result (Reading (Pass P)) Refusal → Result ℕ Refusal
  pass_conclusion (Ok r) = conclusion r.state r.line r.left
  pass_conclusion (Err e) = Err e

-- what readers of lines make of a line, each on a level B
module _ {S B P W : Type 0} (game_of : B → Game P) (spelling_of : B → Spelling P W) (level_of : S → B) (pass_of : S → Pass P) where
  abbrev pub TakesLine : S → ℕ → List ℕ → Result S Refusal → Type 0
  TakesLine s n l r =
      (map_ok pass_of r ≡ next_pass (game_of (level_of s)) (spelling_of (level_of s)) (pass_of s) n l)
      × IfOk r (λ t. level_of t ≡ level_of s)
