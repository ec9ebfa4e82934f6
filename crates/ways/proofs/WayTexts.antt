-- The text of a way whose moves are open, and how it lies in a buffer. Assumes nothing.
use Rattle.std.proofs.Common.{◌≡◌, ℕ, ◌≤◌, Bool, true, false, cond, ◌&&◌, List, [], ◌∷◌, ◌++◌, length, drop, Ok, Err, Result, sym, refl, ap, ◌∙◌, append_assoc}
use Rattle.std.specs.Prelude.{nat_le}
use Rattle.std.proofs.lemmas.Bool.{le-leb}
use Rattle.refusals.specs.declared.Fault.TheVariants.{NoRoom}
use Rattle.refusals.specs.declared.Refusal.{Refusal}
use Rattle.refusals.specs.Refusals.{refusal}
use Rattle.puzzle.specs.Game.{Game}
use Rattle.text.specs.Lines.{join_lines}
use Rattle.text.specs.Forms.{count_line, closing}
use Rattle.text.specs.Pens as pens
use Rattle.ways.specs.Notations.{Spelling}
use Rattle.ways.specs.Judging.{way_keyword}
use Rattle.ways.specs.Writing.{Playable, move_lines, way_text, fits, written_length, buffer_after}

-- lines and one more
join_push : (ls : List (List ℕ)) (l : List ℕ) → join_lines ls ++ (l ++ (10 ∷ [])) ≡ join_lines (ls ++ (l ∷ []))
join_push [] l = refl
join_push (x ∷ xs) l = append_assoc x (10 ∷ join_lines xs) (l ++ (10 ∷ [])) ∙ ap (λ t. x ++ (10 ∷ t)) (join_push xs l)

module _ {P W : Type 0} (g : Game P) (k : Spelling P W) (ms : List ℕ) where
  -- what is written of a way: its head, its moves, and the closing bracket
  pub way_parts : ((count_line way_keyword (length ms) ++ (10 ∷ [])) ++ join_lines (move_lines g k g.start ms)) ++ (41 ∷ 10 ∷ []) ≡ way_text g k ms
  way_parts =
      let head = count_line way_keyword (length ms) in
      let body = join_lines (move_lines g k g.start ms) in
      append_assoc (head ++ (10 ∷ [])) body (41 ∷ 10 ∷ []) ∙ append_assoc head (10 ∷ []) (body ++ (41 ∷ 10 ∷ []))
      ∙ ap (λ t. head ++ (10 ∷ t)) (join_push (move_lines g k g.start ms) closing)

  -- where all moves are open, and not too many, all hangs on whether the text has room
  module _ (all : Playable g ms) (few : length ms ≤ 9999999) (out : List ℕ) where
    abbrev answer : Bool → Result ℕ Refusal
    answer room = cond room (Ok (length (way_text g k ms))) (Err (refusal NoRoom 0))

    abbrev has_room : Bool
    has_room = nat_le (length (way_text g k ms)) (length out)

    by_room : written_length g k ms out ≡ answer has_room
    by_room =
        ap (λ check. elim check [ Ok _ ↦ answer (fits g k ms out) | Err e ↦ Err e ]) all
        ∙ ap (λ b. answer (b && has_room)) (le-leb _ _ few)

    pub length_written : {x : Result ℕ Refusal} → x ≡ answer has_room → x ≡ written_length g k ms out
    length_written e = e ∙ sym by_room

    pub put_in_buffer : pens.buffer_after (way_text g k ms) out ≡ buffer_after g k ms out
    put_in_buffer = by has_room ∙ ap (λ r. elim r [ Ok n ↦ way_text g k ms ++ drop n out | Err e ↦ out ]) (sym by_room)
      where
        by : (b : Bool) → cond b (pens.with_front (way_text g k ms) out) out ≡ elim (answer b) [ Ok n ↦ way_text g k ms ++ drop n out | Err e ↦ out ]
        by true = refl
        by false = refl
