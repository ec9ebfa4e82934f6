-- What is written of moves that solve a level is accepted. Assumes nothing.
use Rattle.std.proofs.Common.{◌≡◌, ℕ, suc, ◌^◌, ◌<◌, List, [], ◌∷◌, ◌++◌, map, length, Some, decimal, sym, refl, ap, ◌∙◌, subst, append_assoc, arith}
use Rattle.std.specs.List.{All}
use Rattle.std.proofs.lemmas.List.Elements.{All-nil, All-cons, All-append}
use Rattle.puzzle.specs.Game.{Game, Reached, Solves, here, solved, step}
use Rattle.puzzle.proofs.Reaching.{reached_more}
use Rattle.text.specs.Lines.{OneLine}
use Rattle.text.specs.Forms.{count_line, closing}
use Rattle.text.proofs.Lines.{split_join, one_line_append, one_line_decimal}
use Rattle.ways.specs.Notations.{Spelling, Lawful}
use Rattle.ways.specs.Judging.{way_keyword, Follows, ends, goes}
use Rattle.ways.specs.Writing.{move_lines, way_text, WritesAccepted}
use Rattle.ways.proofs.Walking.{destination_below}
use Rattle.ways.proofs.Accepting.{accepts_exactly}
use Rattle.ways.proofs.Lines.{lines}

one_line_head : (n : ℕ) → n < 2 ^ 64 → OneLine (count_line way_keyword n)
one_line_head n h = one_line_append (40 ∷ (way_keyword ++ (32 ∷ []))) (decimal n) refl (one_line_decimal n h)

module _ {P W : Type 0} (g : Game P) (k : Spelling P W) (lawful : Lawful g k) where
  -- the lines of moves that solve the level from a position
  record SolvingLines (p : P) (ms : List ℕ) : Type 0 where
    moves : List W
    reading : map k.reading (move_lines g k p ms) ≡ map Some moves
    count : length moves ≡ length ms
    legal : Follows g k p moves
    whole : All OneLine (move_lines g k p ms)

  solving_lines : (p : P) (ms : List ℕ) → Reached g p → Solves g p ms → SolvingLines p ms
  solving_lines p [] r (solved h) = record { moves = []; reading = refl; count = refl; legal = ends h; whole = All-nil OneLine }
  solving_lines p (m ∷ ms) r (step {q = q} h below leads more) =
      let s = lawful.spells p q m r below leads in
      let rest = solving_lines q ms (reached_more g p q m r below leads) more in
      let on : move_lines g k p (m ∷ ms) ≡ k.line p m ∷ move_lines g k q ms =
      ap (lines g k p m ms) (destination_below g p m below ∙ leads) in
      record {
        moves = s.said ∷ rest.moves;
        reading = ap (map k.reading) on ∙ ap (λ o. o ∷ map k.reading (move_lines g k q ms)) s.form ∙ ap (λ x. Some s.said ∷ x) rest.reading;
        count = ap suc rest.count;
        legal = goes h s.leads rest.legal;
        whole = subst (λ ls. All OneLine ls) (sym on) (All-cons OneLine (k.line p m) (move_lines g k q ms) s.whole rest.whole);
      }

  pub writes_accepted : (ms : List ℕ) → WritesAccepted g k ms
  writes_accepted ms solves few =
      let t = solving_lines g.start ms ([], here) solves in
      let ls = move_lines g k g.start ms in
      let head = count_line way_keyword (length ms) in
      let parts : All OneLine (head ∷ (ls ++ (closing ∷ []))) =
      All-cons OneLine head (ls ++ (closing ∷ [])) (one_line_head (length ms) (omega arith))
      (All-append OneLine ls (closing ∷ []) t.whole (All-cons OneLine closing [] refl (All-nil OneLine))) in
      (accepts_exactly g k lawful (way_text g k ms) (length ms)).1 (record {
        lines = ls;
        moves = t.moves;
        form = split_join (head ∷ (ls ++ (closing ∷ []))) parts ∙ ap (λ x. head ∷ x) (append_assoc ls (closing ∷ []) ([] ∷ []));
        reading = t.reading;
        count = t.count;
        small = omega arith;
        legal = t.legal;
      })
