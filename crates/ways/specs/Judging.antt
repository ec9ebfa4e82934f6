-- What the judge says of a written way. Assumes nothing.
use Rattle.std.specs.Prelude.{◌≡◌, ℕ, ◌+◌, ◌<◌, true, false, cond, List, [], ◌∷◌, ◌++◌, map, length, Some, None, Ok, Err, codes, Result, ◌==◌}
use Rattle.refusals.specs.declared.Refusal.{Refusal}
use Rattle.refusals.specs.Refusals.{refusal, refused}
use Rattle.puzzle.specs.Game.{Game, Solves}
use Rattle.text.specs.Lines.{split}
use Rattle.text.specs.Reading.{map_ok}
use Rattle.text.specs.Forms.{count_of, count_line, closing, is_closing}
use Rattle.ways.specs.Notations.{fault_of, Spelling}

-- the word that opens a way
abbrev pub way_keyword : List ℕ
way_keyword = codes "way"

-- n moves of the game that solve it
pub record Solution {P : Type 0} (g : Game P) (n : ℕ) : Type 0 where
  pub moves : List ℕ
  pub count : length moves ≡ n
  pub solves : Solves g g.start moves

module _ {P W : Type 0} (k : Spelling P W) where
  -- First the form. The moves that the lines of a way say, or the number of the first line out of form. The lines
  -- come as the parts of a text between its line ends, so that the last part is no line.

  -- nothing may follow the closing bracket
  abbrev pub moves_after_closing : ℕ → List (List ℕ) → Result (List W) ℕ
  moves_after_closing n [] = Ok []
  moves_after_closing n (l ∷ []) = cond (length l == 0) (Ok []) (Err n)
  moves_after_closing n (l ∷ m ∷ ms) = Err n

  -- move lines, the first of which has number n, and a closing bracket
  abbrev pub moves_from : ℕ → List (List ℕ) → Result (List W) ℕ
  moves_from n [] = Err n
  moves_from n (l ∷ []) = Err n
  moves_from n (l ∷ m ∷ ms) =
      cond (is_closing l) (moves_after_closing (n + 1) (m ∷ ms))
      (elim (k.reading l) [ Some w ↦ map_ok (λ ws. w ∷ ws) (moves_from (n + 1) (m ∷ ms)) | None ↦ Err n ])

module _ {P W : Type 0} (g : Game P) (k : Spelling P W) where
  -- Then the moves, each with its line. This is the order in which a move is refused: first as no legal move of the
  -- position before it, then because that position is finished; and after all moves, because the last one is not.

  -- the position after a move that is written on line n
  abbrev pub position_after : P → ℕ → W → Result P Refusal
  position_after p n w =
      elim (k.outcome p w) [
        | Ok q ↦ cond (g.finished p) (Err (refused 44 n)) (Ok q)
        | Err e ↦ Err (refusal (fault_of e) n)
      ]

  -- the finished position after the moves from line n on
  abbrev pub last_position : P → ℕ → List W → Result P Refusal
  last_position p n [] = cond (g.finished p) (Ok p) (Err (refused 45 n))
  last_position p n (w ∷ ws) = elim (position_after p n w) [ Ok q ↦ last_position q (n + 1) ws | Err e ↦ Err e ]

  -- a way that says that it has n moves
  abbrev pub judgement_of_moves : ℕ → Result (List W) ℕ → Result ℕ Refusal
  judgement_of_moves n (Ok ws) =
      cond (n == length ws) (map_ok (λ _. n) (last_position g.start 2 ws)) (Err (refused 41 1))
  judgement_of_moves n (Err line) = Err (refused 41 line)

  abbrev pub judgement_of_parts : List (List ℕ) → Result ℕ Refusal
  judgement_of_parts [] = Err (refused 41 1)
  judgement_of_parts (l ∷ []) = Err (refused 41 1)
  judgement_of_parts (l ∷ m ∷ ms) =
      elim (count_of way_keyword l) [
        | Some n ↦ judgement_of_moves n (moves_from k 2 (m ∷ ms))
        | None ↦ Err (refused 41 1)
      ]

  -- the number of moves of a way that is accepted, or why it is not
  abbrev pub judgement : List ℕ → Result ℕ Refusal
  judgement text = judgement_of_parts (split text)

  -- When a way is accepted, without the steps of any reader.

  -- each move is legal as written, none follows the finish, and the last position is finished
  pub data Follows : P → List W → Type 0 where
    ends : {p : P} → g.finished p ≡ true → Follows p []
    goes : {p q : P} {w : W} {ws : List W} → g.finished p ≡ false → k.outcome p w ≡ Ok q → Follows q ws
        → Follows p (w ∷ ws)

  -- the lines of the text are the head with the true count, a line for each move, and the closing bracket
  pub record AcceptedWay (text : List ℕ) (n : ℕ) : Type 0 where
    pub lines : List (List ℕ)
    pub moves : List W
    pub form : split text ≡ count_line way_keyword n ∷ (lines ++ (closing ∷ ([] ∷ [])))
    pub reading : map k.reading lines ≡ map Some moves
    pub count : length moves ≡ n
    pub small : n < 10000000
    pub legal : Follows g.start moves

  -- the judge accepts exactly such ways
  abbrev pub AcceptsExactly : List ℕ → Type 0
  AcceptsExactly text =
      (n : ℕ) → (judgement text ≡ Ok n → AcceptedWay text n) × (AcceptedWay text n → judgement text ≡ Ok n)

  -- moves of the game, by their numbers, that lead along the same positions as written ones
  pub data SameMoves : P → List W → List ℕ → Type 0 where
    none : {p : P} → SameMoves p [] []
    next : {p q : P} {w : W} {ws : List W} {m : ℕ} {ms : List ℕ} → k.outcome p w ≡ Ok q → m < g.count → g.move p m ≡ Some q → SameMoves q ws ms → SameMoves p (w ∷ ws) (m ∷ ms)

  -- the written moves of an accepted way are moves of the game that solve it
  pub record SolvingWay (text : List ℕ) (n : ℕ) : Type 0 where
    pub way : AcceptedWay text n
    pub solution : Solution g n
    pub same : SameMoves g.start way.moves solution.moves

  -- every way that is accepted is such a way
  abbrev pub AcceptsSolutions : List ℕ → Type 0
  AcceptsSolutions text = (n : ℕ) → judgement text ≡ Ok n → SolvingWay text n
