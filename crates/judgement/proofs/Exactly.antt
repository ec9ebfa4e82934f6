-- A way is accepted for a level text exactly where both are right. Assumes nothing.
use Rattle.std.proofs.Common.{◌≡◌, ℕ, List, Ok, Err, Result, sym, refl, ap, ◌∙◌}
use Rattle.refusals.specs.declared.Refusal.{Refusal}
use Rattle.text.proofs.Cases.{clash}
use Rattle.levels.specs.Levels.{Level, rules, read_level}
use Rattle.levels.proofs.Reading.{reads_exactly}
use Rattle.levels.proofs.Readable.{readable}
use Rattle.ways.proofs.Accepting.{accepts_exactly, accepts_solutions}
use Rattle.judgement.specs.Judgement.{judgement_by, judgement_of_texts, Right, JudgesExactly, AcceptsSolutions}

module _ (way : List ℕ) (n : ℕ) where
  abbrev judgement_after : Result Level Refusal → Result ℕ Refusal
  judgement_after r = elim r [ Ok l ↦ judgement_by (rules l) way | Err e ↦ Err e ]

  right : (text : List ℕ) (r : Result Level Refusal) → read_level text ≡ r → judgement_after r ≡ Ok n → Right text way n
  right text (Ok l) read is =
      let level = (reads_exactly text).only l read in
      let r = rules l in
      record {
        level = l;
        valid = level.0;
        spelled = level.1;
        accepted = (accepts_exactly r.meaning.game r.spelling (readable l level.0) way n).0 is;
      }
  right text (Err e) read is = absurd (clash n e is)

  judged_right : (text : List ℕ) → Right text way n → judgement_of_texts text way ≡ Ok n
  judged_right text right =
      let r = rules right.level in
      ap judgement_after (ap read_level right.spelled ∙ (reads_exactly text).all right.level right.valid)
      ∙ (accepts_exactly r.meaning.game r.spelling (readable right.level right.valid) way n).1 right.accepted

pub judges_exactly : (text way : List ℕ) → JudgesExactly text way
judges_exactly text way n = (right way n text (read_level text) refl, judged_right way n text)

pub accepts_solutions_of : (text way : List ℕ) → AcceptsSolutions text way
accepts_solutions_of text way n l read is =
    let valid = ((reads_exactly text).only l read).0 in
    accepts_solutions (rules l).meaning.game (rules l).spelling (readable l valid) way n (sym (ap (judgement_after way n) read) ∙ is)
