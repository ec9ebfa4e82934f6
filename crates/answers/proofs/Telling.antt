-- What was found, told of a game whose ways are written. Assumes nothing.
use Rattle.std.proofs.Common.{◌≡◌, refl, sym, ap, subst, ◌∙◌, arith, lit≤, ℕ, ◌+◌, ◌*◌, ◌^◌, ◌<◌, ◌≤◌, Bool, true, false, nat_lt, List, [], ◌∷◌, ◌++◌, length, take, drop, Some, None, Ok, Err, length-append}
use Rattle.std.proofs.Math.Seq.{take-append_seam}
use Rattle.std.specs.Prelude.{⊤, nat_le}
use Rattle.std.proofs.lemmas.Bool.{lt-ltb, le-leb, cond-true}
use Rattle.refusals.specs.declared.Fault.TheVariants.{ClosedMove}
use Rattle.refusals.specs.Refusals.{refusal}
use Rattle.puzzle.specs.Game.{Game, Plays, here, then, Solves, step, Finishes}
use Rattle.puzzle.specs.Game as games
use Rattle.puzzle.specs.Meaning.{Meaning}
use Rattle.puzzle.proofs.Reaching.{plays_more}
use Rattle.text.specs.Reading.{map_ok}
use Rattle.search_theory.specs.Calls.{RecitesWay}
use Rattle.search_theory.specs.declared.Verdict.{Verdict}
use Rattle.search_theory.specs.declared.Verdict.TheVariants.{Solved}
use Rattle.ways.specs.Notations.{longest_line, Spelling, Lawful}
use Rattle.ways.specs.Judging.{judgement}
use Rattle.ways.specs.Writing.{destination, last_destination, Playable, way_text, written_length, buffer_after, IsShort}
use Rattle.ways.proofs.Solving.{writes_accepted}
use Rattle.ways.proofs.WayTexts.{length_written}
use Rattle.levels.specs.Levels.{rules_of}
use Rattle.judgement.proofs.Lengths.{short_refusal}
use Rattle.answers.specs.declared.reply.Reply.{Reply}
use Rattle.answers.specs.declared.reply.Reply.TheVariants.{NoWay, TooMany, Refused}
use Rattle.search_theory.specs.Promise.{Says}
use Rattle.answers.specs.Answers.{places, Tells}
use Rattle.answers.specs.inside.Replies.{reply_text}

module _ {P : Type 0} (g : Game P) where
  -- legal moves can be written
  played : (n : ℕ) (p q : P) (moves : List ℕ) → Plays g p moves q → last_destination g p n moves ≡ Ok q
  played n p q [] here = refl
  played n p q (m ∷ moves) (then {q = r} below leads more) =
      let open_move : destination g p m ≡ Some r = cond-true (nat_lt m g.count) _ _ (lt-ltb m g.count below) ∙ leads in
      ap (λ o. elim o [ Some x ↦ last_destination g x (n + 1) moves | None ↦ Err (refusal ClosedMove n) ]) open_move ∙ played (n + 1) r q moves more

  pub playable : (moves : List ℕ) → Finishes g g.start moves → Playable g moves
  playable moves f = ap (map_ok (λ _. tt)) (played 2 g.start f.last moves f.plays)

  -- Of moves that finish, none of which could be left out at the end, none passes a finished position.
  unpassed : (p last : P) (before moves : List ℕ) → Plays g g.start before p → Plays g p moves last → g.finished last ≡ true
      → ((other : List ℕ) → Finishes g g.start other → length before + length moves ≤ length other) → Solves g p moves
  unpassed p last before [] led here fin least = games.solved fin
  unpassed p last before (m ∷ moves) led (then {q = q} below leads more) fin least =
      by_finished (g.finished p) refl
      (unpassed q last (before ++ (m ∷ [])) moves (plays_more g g.start p q before m led below leads) more fin
      (λ other f. (let enough = least other f in let size = length-append before (m ∷ []) in omega arith)))
    where
      by_finished : (b : Bool) → g.finished p ≡ b → Solves g q moves → Solves g p (m ∷ moves)
      by_finished true is rest = absurd (let enough = least before (record { last = p; plays = led; finished = is }) in omega arith)
      by_finished false is rest = step is below leads rest

  pub solves : (moves : List ℕ) → Finishes g g.start moves → ((other : List ℕ) → Finishes g g.start other → length moves ≤ length other) → Solves g g.start moves
  solves moves f least = unpassed g.start f.last [] moves here f.plays f.finished (λ other g. (let enough = least other g in omega arith))

-- the text of a shortest way
pub way_accepted : {P W : Type 0} (g : Game P) (k : Spelling P W) → Lawful g k → (n : ℕ) (moves : List ℕ) → length moves ≡ n → n ≤ 9999999 → Finishes g g.start moves
    → ((other : List ℕ) → Finishes g g.start other → n ≤ length other) → judgement g k (way_text g k moves) ≡ Ok n
way_accepted g k lawful n moves size few f least =
    writes_accepted g k lawful moves (solves g moves f (λ other h. (let enough = least other h in omega (arith, size)))) (rw size few) ∙ ap Ok size

-- a vector after its elements were written over
pub written_over : (n : ℕ) (new rest : List ℕ) → n ≡ length new → take n (new ++ rest) ≡ new
written_over n new rest is = ap (λ i. take i (new ++ rest)) is ∙ take-append_seam new rest

-- the front of the list that was recited into
pub recited_front : {P : Type 0} (m : Meaning P) (n : ℕ) (before after : List ℕ) → (r : RecitesWay m n before after) → take n after ≡ r.moves
recited_front {P} m n before after r =
    ap (take n) r.written ∙ ap (λ i. take i (r.moves ++ drop n before)) (sym r.count) ∙ take-append_seam r.moves (drop n before)

-- a way that was found fits the room for the answer, and is the answer
module _ {P W : Type 0} (m : Meaning P) (k : Spelling P W) (lawful : Lawful m.game k) (n : ℕ) (old new out : List ℕ) (means : Says m places (Solved n)) (way : RecitesWay m n old new) where
  abbrev found : List ℕ
  found = take n new

  front : found ≡ way.moves
  front = recited_front m n old new way

  count : length found ≡ n
  count = ap length front ∙ way.count

  pub playable_found : Playable m.game found
  playable_found = subst (Playable m.game) (sym front) (playable m.game way.moves way.finish)

  module _ (room : length out ≡ (places + 1) * (longest_line + 1)) (short : IsShort m.game k found) where
    pub written : written_length m.game k found out ≡ Ok (length (way_text m.game k found))
    written =
        let below = means.1 in
        let few : length found ≤ 9999999 = omega (arith, count) in
        let fits = short few in
        let all : (length found + 1) * (longest_line + 1) ≤ (places + 1) * (longest_line + 1) = omega (arith, count) in
        sym (length_written m.game k found playable_found few out (sym (cond-true (nat_le (length (way_text m.game k found)) (length out)) _ _ (le-leb _ _ (omega arith)))))

    pub tells_way : (v : Verdict) (long : ℕ) (after : List ℕ) → v ≡ Solved n → written_length m.game k found out ≡ Ok long → after ≡ buffer_after m.game k found out
        → Tells (rules_of m k) v (take long after)
    tells_way v long after verdict is buffer =
        let text = way_text m.game k found in
        let same : long ≡ length text = (let there = written in cc) in
        let holds : after ≡ text ++ drop (length text) out = buffer ∙ ap (λ r. elim r [ Ok l ↦ text ++ drop l out | Err e ↦ out ]) written in
        let answer : take long after ≡ way_text m.game k way.moves =
        ap (λ i. take i after) same ∙ ap (take (length text)) holds ∙ take-append_seam text (drop (length text) out) ∙ ap (way_text m.game k) front in
        let below = means.1 in
        subst (λ x. Tells (rules_of m k) x (take long after)) (sym verdict)
        (ap (judgement m.game k) answer ∙ way_accepted m.game k lawful n way.moves way.count (omega arith) way.finish means.0.least)

-- a refusal's line as the code holds it
abbrev pub InBits : Reply → Type 0
InBits NoWay = ⊤
InBits TooMany = ⊤
InBits (Refused e) = e.line < 2 ^ 64

pub short_reply : (r : Reply) → InBits r → length (reply_text r) ≤ 32
short_reply NoWay bits = lit≤ tt
short_reply TooMany bits = lit≤ tt
short_reply (Refused e) bits = short_refusal e bits
