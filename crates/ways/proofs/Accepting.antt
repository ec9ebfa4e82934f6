-- The judge accepts exactly the ways that are in form, legal, and end at the finish; and they solve the game. Assumes nothing.
use Rattle.std.proofs.Common.{◌≡◌, ℕ, suc, ◌+◌, Bool, true, false, cond, eqb, List, [], ◌∷◌, ◌++◌, map, length, Some, None, Ok, Err, Option, Result, sym, refl, ap, ◌∙◌, lit<}
use Rattle.std.proofs.lemmas.Slice.Eq.{bytes_eq-Decides}
use Rattle.std.proofs.lemmas.List.{nil_from_length}
use Rattle.std.proofs.lemmas.Bool.{eqb-true, eq-eqb, cond-true, cond-false}
use Rattle.refusals.specs.declared.Fault.TheVariants.{WayForm, NotFinished}
use Rattle.refusals.specs.declared.Refusal.{Refusal}
use Rattle.refusals.specs.Refusals.{refusal}
use Rattle.puzzle.specs.Game.{Game, Solves, solved, step}
use Rattle.text.specs.Lines.{split}
use Rattle.text.specs.Reading.{map_ok}
use Rattle.text.specs.Pieces.{Keyword}
use Rattle.text.specs.Forms.{count_of, count_line, closing, is_closing}
use Rattle.text.proofs.FormLaws.{forms_hold}
use Rattle.ways.specs.Notations.{Spelling, Lawful}
use Rattle.ways.specs.Judging.{way_keyword, moves_after_closing, moves_from, position_after, last_position, judgement_of_moves, judgement_of_parts, judgement, Follows, ends, goes, AcceptedWay, AcceptsExactly, AcceptsSolutions, SameMoves, none, next}
use Rattle.ways.proofs.Walking.{move_allowed}

pub way_is_keyword : Keyword way_keyword
way_is_keyword = record { some = lit< tt; plainly = refl; unlike = refl }

-- where a function was applied to what there is, there was something
module _ {A B E : Type 0} (f : A → B) where
  pub ok_mapped : (r : Result A E) (b : B) → map_ok f r ≡ Ok b → (a : A) × (r ≡ Ok a) × (f a ≡ b)
  ok_mapped (Ok a) b e = let same : f a ≡ b = cc in (a, refl, same)
  ok_mapped (Err x) b e = absurd (cc)

-- what follows a line is never empty
some_part : (ls : List (List ℕ)) → (m : List ℕ) × (ms : List (List ℕ)) × (ls ++ (closing ∷ ([] ∷ [])) ≡ m ∷ ms)
some_part [] = (closing, [] ∷ [], refl)
some_part (l ∷ ls) = (l, ls ++ (closing ∷ ([] ∷ [])), refl)

-- the form of the lines
module _ {P W : Type 0} (k : Spelling P W) where
  -- the lines that were read as these moves
  pub record Read (parts : List (List ℕ)) (ws : List W) : Type 0 where
    pub lines : List (List ℕ)
    pub form : parts ≡ lines ++ (closing ∷ ([] ∷ []))
    pub reading : map k.reading lines ≡ map Some ws

  ends_only : (i : ℕ) (m : List ℕ) (ms : List (List ℕ)) (ws : List W) → moves_after_closing k i (m ∷ ms) ≡ Ok ws → (m ∷ ms ≡ [] ∷ []) × ([] ≡ ws)
  ends_only i m [] ws e = by (eqb (length m) 0) refl e
    where
      by : (b : Bool) → eqb (length m) 0 ≡ b → ◌≡◌ {A = Result (List W) ℕ} (cond b (Ok []) (Err i)) (Ok ws) → (m ∷ [] ≡ [] ∷ []) × ([] ≡ ws)
      by true p q = let same : [] ≡ ws = cc in (ap (λ l. l ∷ []) (nil_from_length m (eqb-true _ _ p)), same)
      by false p q = absurd (cc)
  ends_only i m (l ∷ ls) ws e = absurd (cc)

  pub moves_only : (i : ℕ) (parts : List (List ℕ)) (ws : List W) → moves_from k i parts ≡ Ok ws → Read parts ws
  moves_only i [] ws e = absurd (cc)
  moves_only i (l ∷ []) ws e = absurd (cc)
  moves_only i (l ∷ m ∷ ms) ws e = by (is_closing l) (k.reading l) refl refl e (moves_only (i + 1) (m ∷ ms))
    where
      by : (b : Bool) (o : Option W) → is_closing l ≡ b → k.reading l ≡ o → ◌≡◌ {A = Result (List W) ℕ} (cond b (moves_after_closing k (i + 1) (m ∷ ms)) (elim o [ Some w ↦ map_ok (λ vs. w ∷ vs) (moves_from k (i + 1) (m ∷ ms)) | None ↦ Err i ])) (Ok ws) → ((vs : List W) → moves_from k (i + 1) (m ∷ ms) ≡ Ok vs → Read (m ∷ ms) vs) → Read (l ∷ m ∷ ms) ws
      by true o p q e more =
          let end = ends_only (i + 1) m ms ws e in
          record {
            lines = [];
            form = ap (λ x. x ∷ m ∷ ms) ((bytes_eq-Decides l closing).0 p) ∙ ap (λ x. closing ∷ x) end.0;
            reading = ap (map Some) end.1;
          }
      by false (Some w) p q e more =
          let r = ok_mapped (λ vs. w ∷ vs) (moves_from k (i + 1) (m ∷ ms)) ws e in
          let h = more r.0 r.1 in
          record {
            lines = l ∷ h.lines;
            form = ap (λ x. l ∷ x) h.form;
            reading = ap (λ o. o ∷ map k.reading h.lines) q ∙ ap (λ x. Some w ∷ x) h.reading ∙ ap (map Some) r.2;
          }
      by false None p q e more = absurd (cc)

  -- the other way, where a closing bracket is no move line
  module _ (unclosed : k.reading closing ≡ None) where
    not_closing : (l : List ℕ) (w : W) → k.reading l ≡ Some w → is_closing l ≡ false
    not_closing l w e = by (is_closing l) refl
      where
        by : (b : Bool) → is_closing l ≡ b → b ≡ false
        by true p = let none : ◌≡◌ {A = Option W} None (Some w) = sym unclosed ∙ ap k.reading (sym ((bytes_eq-Decides l closing).0 p)) ∙ e in absurd (cc)
        by false p = refl

    move_line_lem : (i : ℕ) (l : List ℕ) (w : W) (parts : List (List ℕ)) → ((m : List ℕ) × (ms : List (List ℕ)) × (parts ≡ m ∷ ms)) → k.reading l ≡ Some w → moves_from k i (l ∷ parts) ≡ map_ok (λ ws. w ∷ ws) (moves_from k (i + 1) parts)
    move_line_lem i l w parts some e =
        let m = some.0 in
        let ms = some.1 in
        let next = moves_from k (i + 1) (m ∷ ms) in
        ap (λ x. moves_from k i (l ∷ x)) some.2
        ∙ cond-false (is_closing l) _ _ (not_closing l w e)
        ∙ ap (λ o. elim o [ Some v ↦ map_ok (λ ws. v ∷ ws) next | None ↦ Err i ]) e
        ∙ ap (λ x. map_ok (λ ws. w ∷ ws) (moves_from k (i + 1) x)) (sym some.2)

    pub moves_all : (i : ℕ) (lines : List (List ℕ)) (ws : List W) → map k.reading lines ≡ map Some ws → moves_from k i (lines ++ (closing ∷ ([] ∷ []))) ≡ Ok ws
    moves_all i [] [] e = refl
    moves_all i [] (w ∷ ws) e = absurd (cc)
    moves_all i (l ∷ ls) [] e = absurd (cc)
    moves_all i (l ∷ ls) (w ∷ ws) e =
        let first : k.reading l ≡ Some w = cc in
        let more : map k.reading ls ≡ map Some ws = cc in
        move_line_lem i l w (ls ++ (closing ∷ ([] ∷ []))) (some_part ls) first ∙ ap (map_ok (λ vs. w ∷ vs)) (moves_all (i + 1) ls ws more)

module _ {P W : Type 0} (g : Game P) (k : Spelling P W) where
  follows_only : (p : P) (i : ℕ) (ws : List W) (q : P) → last_position g k p i ws ≡ Ok q → Follows g k p ws
  follows_only p i [] q e = by (g.finished p) refl e
    where
      by : (b : Bool) → g.finished p ≡ b → ◌≡◌ {A = Result P Refusal} (cond b (Ok p) (Err (refusal NotFinished i))) (Ok q) → Follows g k p []
      by true h e = ends h
      by false h e = absurd (cc)
  follows_only p i (w ∷ ws) q e = by (position_after g k p i w) refl e (λ s. follows_only s (i + 1) ws q)
    where
      by : (r : Result P Refusal) → position_after g k p i w ≡ r → ◌≡◌ {A = Result P Refusal} (elim r [ Ok s ↦ last_position g k s (i + 1) ws | Err x ↦ Err x ]) (Ok q) → ((s : P) → last_position g k s (i + 1) ws ≡ Ok q → Follows g k s ws) → Follows g k p (w ∷ ws)
      by (Ok s) h e more = let m = move_allowed g k p i w s h in goes m.unfinished m.outcome (more s e)
      by (Err x) h e more = absurd (cc)

  record LegalMoves (n : ℕ) (ws : List W) : Type 0 where
    count : length ws ≡ n
    legal : Follows g k g.start ws

  moves_accepted : (c n : ℕ) (ws : List W) → judgement_of_moves g k c (Ok ws) ≡ Ok n → (c ≡ n) × LegalMoves n ws
  moves_accepted c n ws e = by (eqb c (length ws)) refl e
    where
      by : (b : Bool) → eqb c (length ws) ≡ b → ◌≡◌ {A = Result ℕ Refusal} (cond b (map_ok (λ _. c) (last_position g k g.start 2 ws)) (Err (refusal WayForm 1))) (Ok n) → (c ≡ n) × LegalMoves n ws
      by true p e =
          let r = ok_mapped (λ _. c) (last_position g k g.start 2 ws) n e in
          (r.2, record { count = sym (eqb-true c (length ws) p) ∙ r.2; legal = follows_only g.start 2 ws r.0 r.1 })
      by false p e = absurd (cc)

  accepted_parts : (text : List ℕ) (n : ℕ) (parts : List (List ℕ)) → split text ≡ parts → judgement_of_parts g k parts ≡ Ok n → AcceptedWay g k text n
  accepted_parts text n [] s e = absurd (cc)
  accepted_parts text n (l ∷ []) s e = absurd (cc)
  accepted_parts text n (l ∷ m ∷ ms) s e = by (count_of way_keyword l) (moves_from k 2 (m ∷ ms)) refl refl e
    where
      by : (o : Option ℕ) (r : Result (List W) ℕ) → count_of way_keyword l ≡ o → moves_from k 2 (m ∷ ms) ≡ r → ◌≡◌ {A = Result ℕ Refusal} (elim o [ Some c ↦ judgement_of_moves g k c r | None ↦ Err (refusal WayForm 1) ]) (Ok n) → AcceptedWay g k text n
      by (Some c) (Ok ws) p q e =
          let j = moves_accepted c n ws e in
          let head = forms_hold.count_only way_keyword l n (p ∙ ap Some j.0) in
          let h = moves_only k 2 (m ∷ ms) ws q in
          record {
            lines = h.lines;
            moves = ws;
            form = s ∙ ap (λ x. x ∷ m ∷ ms) head.0 ∙ ap (λ x. count_line way_keyword n ∷ x) h.form;
            reading = h.reading;
            count = j.1.count;
            small = head.1;
            legal = j.1.legal;
          }
      by (Some c) (Err i) p q e = absurd (cc)
      by None r p q e = absurd (cc)

  pub accepted_way : (text : List ℕ) (n : ℕ) → judgement g k text ≡ Ok n → AcceptedWay g k text n
  accepted_way text n = accepted_parts text n (split text) refl

  follows_all : (p : P) (i : ℕ) (ws : List W) → Follows g k p ws → (q : P) × (last_position g k p i ws ≡ Ok q)
  follows_all p i [] (ends h) = (p, cond-true (g.finished p) _ _ h)
  follows_all p i (w ∷ ws) (goes {q = q} h o f) =
      let more = follows_all q (i + 1) ws f in (
        more.0,
        ap (λ r. elim r [ Ok s ↦ last_position g k s (i + 1) ws | Err x ↦ Err x ]) (step_lem h o) ∙ more.1,
      )
    where
      step_lem : g.finished p ≡ false → k.outcome p w ≡ Ok q → position_after g k p i w ≡ Ok q
      step_lem h o = cc

  -- the laws of a notation
  module _ (lawful : Lawful g k) where
    way_accepted : (text : List ℕ) (n : ℕ) → AcceptedWay g k text n → judgement g k text ≡ Ok n
    way_accepted text n a =
        let parts = a.lines ++ (closing ∷ ([] ∷ [])) in
        let some = some_part a.lines in
        let f = follows_all g.start 2 a.moves a.legal in
        ap (judgement_of_parts g k) a.form ∙ ap (λ x. judgement_of_parts g k (count_line way_keyword n ∷ x)) some.2
        ∙ ap (λ o. elim o [ Some c ↦ judgement_of_moves g k c (moves_from k 2 (some.0 ∷ some.1)) | None ↦ Err (refusal WayForm 1) ]) (forms_hold.count_all way_keyword n way_is_keyword a.small)
        ∙ ap (λ x. judgement_of_moves g k n (moves_from k 2 x)) (sym some.2)
        ∙ ap (judgement_of_moves g k n) (moves_all k lawful.unclosed 2 a.lines a.moves a.reading)
        ∙ cond-true (eqb n (length a.moves)) _ _ (eq-eqb n (length a.moves) (sym a.count))
        ∙ ap (map_ok (λ _. n)) f.1

    pub accepts_exactly : (text : List ℕ) → AcceptsExactly g k text
    accepts_exactly text n = (accepted_way text n, way_accepted text n)

    -- the numbers of moves that were followed to the finish
    solution_from : (p : P) (ws : List W) → Follows g k p ws → (ms : List ℕ) × (length ms ≡ length ws) × Solves g p ms × SameMoves g k p ws ms
    solution_from p [] (ends h) = ([], refl, solved h, none)
    solution_from p (w ∷ ws) (goes {q = q} h o f) =
        let m = lawful.legal p q w o in
        let more = solution_from q ws f in
        (m.number ∷ more.0, ap suc more.1, step h m.below m.leads more.2, next o m.below m.leads more.3)

    pub accepts_solutions : (text : List ℕ) → AcceptsSolutions g k text
    accepts_solutions text n is =
        let a = accepted_way text n is in
        let s = solution_from g.start a.moves a.legal in
        record { way = a; solution = record { moves = s.0; count = s.1 ∙ a.count; solves = s.2 }; same = s.3 }
