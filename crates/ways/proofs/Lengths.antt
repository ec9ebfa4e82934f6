-- How long the text of a way is at most. Assumes nothing.
use Rattle.std.proofs.Common.{◌≡◌, ℕ, ◌+◌, ◌*◌, ◌<◌, ◌≤◌, Bool, true, false, cond, ltb, List, [], ◌∷◌, ◌++◌, length, Some, None, Option, decimal, refl, arith}
use Rattle.std.proofs.lemmas.Bool.{ltb-true}
use Rattle.std.proofs.lemmas.Fmt.{length-decimal-le}
use Rattle.std.proofs.lemmas.List.{length-append}
use Rattle.puzzle.specs.Game.{Game, Reached, here}
use Rattle.puzzle.proofs.Reaching.{reached_more}
use Rattle.text.specs.Lines.{join_lines}
use Rattle.text.specs.Forms.{count_line, closing}
use Rattle.ways.specs.Notations.{longest_line, Spelling, Lawful}
use Rattle.ways.specs.Judging.{way_keyword}
use Rattle.ways.specs.Writing.{destination, move_lines, IsShort}
use Rattle.ways.proofs.Lines.{lines}

-- an open move has one of the game's numbers, and leads there in the game
open_move : {P : Type 0} (g : Game P) (p q : P) (m : ℕ) → destination g p m ≡ Some q → (m < g.count) × (g.move p m ≡ Some q)
open_move {P} g p q m e = by (ltb m g.count) refl e
  where
    by : (b : Bool) → ltb m g.count ≡ b → cond b (g.move p m) None ≡ Some q → (m < g.count) × (g.move p m ≡ Some q)
    by true below e = (ltb-true m g.count below, e)
    by false below e = absurd (cc)

-- the lines of two lists
length_joined : (ls ms : List (List ℕ)) → length (join_lines (ls ++ ms)) ≡ length (join_lines ls) + length (join_lines ms)
length_joined [] ms = omega arith
length_joined (l ∷ ls) ms =
    omega (arith, length-append l (10 ∷ join_lines (ls ++ ms)), length-append l (10 ∷ join_lines ls), length_joined ls ms)

module _ {P W : Type 0} (g : Game P) (k : Spelling P W) (lawful : Lawful g k) where
  short_lines : (p : P) (ms : List ℕ) → Reached g p → length (join_lines (move_lines g k p ms)) ≤ length ms * (longest_line + 1)
  short_lines p [] r = omega arith
  short_lines p (m ∷ ms) r = by (destination g p m) refl (λ q. short_lines q ms)
    where
      by : (o : Option P) → destination g p m ≡ o → ((q : P) → Reached g q → length (join_lines (move_lines g k q ms)) ≤ length ms * (longest_line + 1))
          → length (join_lines (lines g k p m ms o)) ≤ length (m ∷ ms) * (longest_line + 1)
      by (Some q) e rest =
          let o = open_move g p q m e in
          let line = lawful.short p q m r o.0 o.1 in
          let more = rest q (reached_more g p q m r o.0 o.1) in
          omega (arith, length-append (k.line p m) (10 ∷ join_lines (move_lines g k q ms)))
      by None e rest = omega arith

  pub is_short : (ms : List ℕ) → IsShort g k ms
  is_short ms few =
      let n = length ms in
      let body = move_lines g k g.start ms in
      let digits : length (decimal n) ≤ 7 = length-decimal-le 7 n (omega arith) (omega arith) (omega arith) in
      let moves = short_lines g.start ms ([], here) in
      omega (arith, length-append (count_line way_keyword n) (10 ∷ join_lines (body ++ (closing ∷ []))), length_joined body (closing ∷ []))
