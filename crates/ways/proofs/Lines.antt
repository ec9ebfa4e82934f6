-- The lines of a way, one move after the other. Assumes nothing.
use Rattle.std.proofs.Common.{◌≡◌, ℕ, ◌+◌, ◌<◌, List, [], ◌∷◌, length, get_or, drop, Some, None, Ok, Err, Option, Result, sym, refl, ap, ◌∙◌, arith}
use Rattle.std.proofs.lemmas.List.{at_drop_more}
use Rattle.refusals.specs.declared.Fault.TheVariants.{ClosedMove}
use Rattle.refusals.specs.declared.Refusal.{Refusal}
use Rattle.refusals.specs.Refusals.{refusal}
use Rattle.puzzle.specs.Game.{Game}
use Rattle.text.specs.Reading.{map_ok}
use Rattle.ways.specs.Notations.{Spelling}
use Rattle.ways.specs.Writing.{destination, last_destination, Playable, move_lines}

module _ {P : Type 0} (g : Game P) where
  -- an open move is a move of the game
  abbrev pub on : ℕ → List ℕ → Option P → Result P Refusal
  on n ms o = elim o [ Some q ↦ last_destination g q (n + 1) ms | None ↦ Err (refusal ClosedMove n) ]

  pub last_destination_more : (p : P) (n : ℕ) (ms : List ℕ) (i : ℕ) (o : Option P) → i < length ms → destination g p (get_or ms i 0) ≡ o → last_destination g p n (drop i ms) ≡ on n (drop (i + 1) ms) o
  last_destination_more p n ms i o h e = at_drop_more (last_destination g p n) ms i 0 h ∙ ap (on n (drop (i + 1) ms)) e

  -- where all moves can be played, the next one is open, and the moves after it can be played
  pub record NextOpen (p : P) (ms : List ℕ) (i : ℕ) : Type 0 where
    pub next : P
    pub leads : destination g p (get_or ms i 0) ≡ Some next
    pub onward : last_destination g next (i + 1 + 2) (drop (i + 1) ms) ≡ last_destination g p (i + 2) (drop i ms)

  pub next_open : (p : P) (ms : List ℕ) (i : ℕ) → Playable g ms → i < length ms → last_destination g p (i + 2) (drop i ms) ≡ last_destination g g.start 2 ms → NextOpen p ms i
  next_open p ms i playable h plays = by (destination g p (get_or ms i 0)) refl
    where
      line : i + 1 + 2 ≡ i + 2 + 1
      line = omega arith

      by : (o : Option P) → destination g p (get_or ms i 0) ≡ o → NextOpen p ms i
      by (Some q) e = record {
        next = q;
        leads = e;
        onward = ap (λ n. last_destination g q n (drop (i + 1) ms)) line ∙ sym (last_destination_more p (i + 2) ms i (Some q) h e);
      }
      by None e =
          let shut : last_destination g g.start 2 ms ≡ Err (refusal ClosedMove (i + 2)) = sym plays ∙ last_destination_more p (i + 2) ms i None h e in
          let never : ◌≡◌ {A = Result (Unit {0}) Refusal} (Err (refusal ClosedMove (i + 2))) (Ok tt) = sym (ap (map_ok (λ _. tt)) shut) ∙ playable in
          absurd (cc)

module _ {P W : Type 0} (g : Game P) (k : Spelling P W) where
  abbrev pub lines : P → ℕ → List ℕ → Option P → List (List ℕ)
  lines p m ms o = elim o [ Some q ↦ k.line p m ∷ move_lines g k q ms | None ↦ [] ]

  pub lines_more : (p : P) (ms : List ℕ) (i : ℕ) (o : Option P) → i < length ms → destination g p (get_or ms i 0) ≡ o → move_lines g k p (drop i ms) ≡ lines p (get_or ms i 0) (drop (i + 1) ms) o
  lines_more p ms i o h e = at_drop_more (move_lines g k p) ms i 0 h ∙ ap (lines p (get_or ms i 0) (drop (i + 1) ms)) e
