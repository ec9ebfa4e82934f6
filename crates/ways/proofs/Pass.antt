-- One pass over the lines says what the judgement says. Assumes nothing.
use Rattle.std.proofs.Common.{◌≡◌, ℕ, suc, ◌+◌, ◌-◌, Bool, true, false, cond, eqb, List, [], ◌∷◌, length, Some, None, Ok, Err, IfOk, Option, Result, sym, refl, ap, ◌∙◌, arith}
use Rattle.std.proofs.lemmas.Bool.Decides.{nat_tests}
use Rattle.refusals.specs.declared.Fault.TheVariants.{WayForm}
use Rattle.refusals.specs.declared.Refusal.{Refusal}
use Rattle.refusals.specs.Refusals.{refusal}
use Rattle.puzzle.specs.Game.{Game}
use Rattle.text.specs.Lines.{Reading, split, read_lines}
use Rattle.text.specs.Reading.{ReadsLines, map_ok, map_reading}
use Rattle.text.specs.Forms.{count_of, is_closing}
use Rattle.text.proofs.Lines.{goes}
use Rattle.text.proofs.Taking.{reads_as}
use Rattle.ways.specs.declared.progress.Progress.TheVariants.{Head, Moves, Closed}
use Rattle.ways.specs.Notations.{Spelling}
use Rattle.ways.specs.Judging.{way_keyword, moves_after_closing, moves_from, position_after, last_position, judgement_of_moves, judgement_of_parts, judgement}
use Rattle.ways.specs.inside.Passing.{Pass, pass, moves, pass_after_move, pass_with_move, next_pass, end_from, pass_conclusion, TakesLine}

module _ {P W : Type 0} (g : Game P) (k : Spelling P W) where
  -- what is said in the end of a way of n moves, by the moves that are still to come; those before line i are i - 2
  abbrev rest : ℕ → Option Refusal → P → ℕ → Result (List W) ℕ → Result ℕ Refusal
  rest n o p i (Ok ws) = cond (eqb (n + 2) (i + length ws)) (map_ok (λ _. n) (end_from g k o p i ws)) (Err (refusal WayForm 1))
  rest n o p i (Err j) = Err (refusal WayForm j)

  -- reading goes on from line i, among the moves
  abbrev reading_on : ℕ → Pass P → List (List ℕ) → Result ℕ Refusal
  reading_on i s parts = pass_conclusion g k (read_lines (next_pass g k) s i parts)

  -- after the closing bracket
  closed_end : (n : ℕ) (o : Option Refusal) (p : P) (i : ℕ) (empty : Bool) → cond empty (cond (eqb (n + 2) (i - 1)) (map_ok (λ _. n) (end_from g k o p (i - 1) [])) (Err (refusal WayForm 1))) (Err (refusal WayForm i)) ≡ rest n o p (i - 1) (cond empty (Ok []) (Err i))
  closed_end n o p i true = ap (λ a. cond (eqb (n + 2) a) (map_ok (λ _. n) (end_from g k o p (i - 1) [])) (Err (refusal WayForm 1))) (none (i - 1))
    where
      none : (a : ℕ) → a ≡ a + 0
      none a = omega arith
  closed_end n o p i false = refl

  pass_closed : (n : ℕ) (o : Option Refusal) (p : P) (i : ℕ) (parts : List (List ℕ)) → reading_on i (pass (Closed (moves n o)) p) parts ≡ rest n o p (i - 1) (moves_after_closing k i parts)
  pass_closed n o p i [] = closed_end n o p i true
  pass_closed n o p i (l ∷ []) = closed_end n o p i (eqb (length l) 0)
  pass_closed n o p i (l ∷ m ∷ ms) = refl

  -- a move more is one line more, and one move less that is still to come
  same_count : (n i : ℕ) (ws : List W) (r s : Result P Refusal) → r ≡ s → cond (eqb (n + 2) (i + 1 + length ws)) (map_ok (λ _. n) r) (Err (refusal WayForm 1)) ≡ cond (eqb (n + 2) (i + suc (length ws))) (map_ok (λ _. n) s) (Err (refusal WayForm 1))
  same_count n i ws r s same =
      ap (λ a. cond (eqb (n + 2) a) (map_ok (λ _. n) r) (Err (refusal WayForm 1))) (shift i (length ws))
      ∙ ap (λ x. cond (eqb (n + 2) (i + suc (length ws))) (map_ok (λ _. n) x) (Err (refusal WayForm 1))) same
    where
      shift : (a b : ℕ) → a + 1 + b ≡ a + suc b
      shift a b = omega arith

  module _ (n : ℕ) (p : P) (i : ℕ) (w : W) where
    abbrev rest_with_move : Option Refusal → Result (List W) ℕ → Result ℕ Refusal
    rest_with_move o r = rest n o p i (map_ok (λ ws. w ∷ ws) r)

    rest_refused : (e : Refusal) (r : Result (List W) ℕ) → rest n (Some e) p (i + 1) r ≡ rest_with_move (Some e) r
    rest_refused e (Ok ws) = same_count n i ws (Err e) (Err e) refl
    rest_refused e (Err j) = refl

    -- after a move that leads to a position, or is refused
    abbrev rest_after : Result P Refusal → Result (List W) ℕ → Result ℕ Refusal
    rest_after (Ok q) r = rest n None q (i + 1) r
    rest_after (Err e) r = rest n (Some e) p (i + 1) r

    rest_move : (o : Result P Refusal) → position_after g k p i w ≡ o → (r : Result (List W) ℕ) → rest_after o r ≡ rest_with_move None r
    rest_move (Ok q) is (Ok ws) = same_count n i ws (last_position g k q (i + 1) ws) (last_position g k p i (w ∷ ws)) (sym (ap (λ o. elim o [ Ok q ↦ last_position g k q (i + 1) ws | Err e ↦ Err e ]) is))
    rest_move (Err e) is (Ok ws) = same_count n i ws (Err e) (last_position g k p i (w ∷ ws)) (sym (ap (λ o. elim o [ Ok q ↦ last_position g k q (i + 1) ws | Err e ↦ Err e ]) is))
    rest_move (Ok q) is (Err j) = refl
    rest_move (Err e) is (Err j) = refl

  -- among the moves
  pass_moves : (n : ℕ) (o : Option Refusal) (p : P) (i : ℕ) (parts : List (List ℕ)) → reading_on i (pass (Moves (moves n o)) p) parts ≡ rest n o p i (moves_from k i parts)
  pass_moves n o p i [] = refl
  pass_moves n o p i (l ∷ []) = refl
  pass_moves n o p i (l ∷ m ∷ ms) = by (is_closing l) (k.reading l) (λ o p. pass_moves n o p (i + 1) (m ∷ ms))
    where
      before : (a : ℕ) → a + 1 - 1 ≡ a
      before a = omega arith

      More : Type 0
      More = (o : Option Refusal) (p : P) → reading_on (i + 1) (pass (Moves (moves n o)) p) (m ∷ ms) ≡ rest n o p (i + 1) (moves_from k (i + 1) (m ∷ ms))

      by_outcome : (w : W) (r : Result P Refusal) → position_after g k p i w ≡ r → More → reading_on (i + 1) (pass_after_move n p r) (m ∷ ms) ≡ rest_with_move n p i w None (moves_from k (i + 1) (m ∷ ms))
      by_outcome w (Ok q) is more = more None q ∙ rest_move n p i w (Ok q) is (moves_from k (i + 1) (m ∷ ms))
      by_outcome w (Err e) is more = more (Some e) p ∙ rest_move n p i w (Err e) is (moves_from k (i + 1) (m ∷ ms))

      by_refusal : (w : W) (o : Option Refusal) → More → reading_on (i + 1) (pass_with_move g k n o p i w) (m ∷ ms) ≡ rest_with_move n p i w o (moves_from k (i + 1) (m ∷ ms))
      by_refusal w None more = by_outcome w (position_after g k p i w) refl more
      by_refusal w (Some e) more = more (Some e) p ∙ rest_refused n p i w e (moves_from k (i + 1) (m ∷ ms))

      by : (b : Bool) (s : Option W) → More → pass_conclusion g k (goes (next_pass g k) i (m ∷ ms) (cond b (Ok (pass (Closed (moves n o)) p)) (elim s [ Some w ↦ Ok (pass_with_move g k n o p i w) | None ↦ Err (refusal WayForm i) ]))) ≡ rest n o p i (cond b (moves_after_closing k (i + 1) (m ∷ ms)) (elim s [ Some w ↦ map_ok (λ ws. w ∷ ws) (moves_from k (i + 1) (m ∷ ms)) | None ↦ Err i ]))
      by true s more = pass_closed n o p (i + 1) (m ∷ ms) ∙ ap (λ j. rest n o p j (moves_after_closing k (i + 1) (m ∷ ms))) (before i)
      by false (Some w) more = by_refusal w o more
      by false None more = refl

  from_start : (n : ℕ) (r : Result (List W) ℕ) → rest n None g.start 2 r ≡ judgement_of_moves g k n r
  from_start n (Ok ws) = ap (λ b. cond b (map_ok (λ _. n) (last_position g k g.start 2 ws)) (Err (refusal WayForm 1))) (same n (length ws))
    where
      same : (a b : ℕ) → eqb (a + 2) (2 + b) ≡ eqb a b
      same a b = grind (arith, nat_tests)
  from_start n (Err j) = refl

  one_pass_parts : (parts : List (List ℕ)) → reading_on 1 (pass Head g.start) parts ≡ judgement_of_parts g k parts
  one_pass_parts [] = refl
  one_pass_parts (l ∷ []) = refl
  one_pass_parts (l ∷ m ∷ ms) = by (count_of way_keyword l)
    where
      by : (o : Option ℕ) → pass_conclusion g k (goes (next_pass g k) 1 (m ∷ ms) (elim o [ Some n ↦ Ok (pass (Moves (moves n None)) g.start) | None ↦ Err (refusal WayForm 1) ])) ≡ elim o [ Some n ↦ judgement_of_moves g k n (moves_from k 2 (m ∷ ms)) | None ↦ Err (refusal WayForm 1) ]
      by (Some n) = pass_moves n None g.start 2 (m ∷ ms) ∙ from_start n (moves_from k 2 (m ∷ ms))
      by None = refl

  pub one_pass : (t : List ℕ) → reading_on 1 (pass Head g.start) (split t) ≡ judgement g k t
  one_pass t = one_pass_parts (split t)

-- what readers that take lines so make of a text, each on its level
module _ {S B P W : Type 0} (game_of : B → Game P) (spelling_of : B → Spelling P W) (level_of : S → B) (pass_of : S → Pass P) (level : B) where
  abbrev Takes : S → ℕ → List ℕ → Result S Refusal → Type 0
  Takes = TakesLine game_of spelling_of level_of pass_of

  abbrev next : Pass P → ℕ → List ℕ → Result (Pass P) Refusal
  next = next_pass (game_of level) (spelling_of level)

  line_passes : (s : S) (n : ℕ) (l : List ℕ) (r : Result S Refusal) → level_of s ≡ level → Takes s n l r → (map_ok pass_of r ≡ next (pass_of s) n l) × IfOk r (λ t. level_of t ≡ level)
  line_passes s n l (Ok t) on takes = (takes.0 ∙ ap (λ z. next_pass (game_of z) (spelling_of z) (pass_of s) n l) on, takes.1 ∙ on)
  line_passes s n l (Err e) on takes = (takes.0 ∙ ap (λ z. next_pass (game_of z) (spelling_of z) (pass_of s) n l) on, tt)

  -- the level stays, and the pass says the judgement
  pub text_passes : (start : S) → level_of start ≡ level → pass_of start ≡ pass Head (game_of level).start → (t : List ℕ) (r : Result (Reading S) Refusal) → ReadsLines Takes start 1 (split t) r → (pass_conclusion (game_of level) (spelling_of level) (map_reading pass_of r) ≡ judgement (game_of level) (spelling_of level) t) × IfOk r (λ x. level_of x.state ≡ level)
  text_passes start on fresh t r reads =
      let all = reads_as Takes next pass_of (λ s _. level_of s ≡ level) line_passes start 1 on (split t) r reads in
      (ap (pass_conclusion (game_of level) (spelling_of level)) (all.0 ∙ ap (λ s. read_lines next s 1 (split t)) fresh) ∙ one_pass (game_of level) (spelling_of level) t, all.1)
