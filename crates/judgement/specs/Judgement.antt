-- The judgement of a way for a level of any kind, both as texts, and the line that reports it. Assumes nothing.
use Rattle.std.specs.Prelude.{◌≡◌, ℕ, List, ◌++◌, Ok, Err, codes, decimal, Result}
use Rattle.refusals.specs.declared.Refusal.{Refusal}
use Rattle.refusals.specs.Refusals.{refusal_line}
use Rattle.levels.specs.Levels.{Level, Rules, rules, Valid, level_text, read_level}
use Rattle.ways.specs.Judging.{judgement, AcceptedWay, SolvingWay}

-- the judgement of a way by the rules of a level
abbrev pub judgement_by : Rules → List ℕ → Result ℕ Refusal
judgement_by r way = judgement r.meaning.game r.spelling way

-- a way was judged by these rules
abbrev pub JudgesWay : Rules → List ℕ → Result ℕ Refusal → Type 0
JudgesWay r way answer = answer ≡ judgement_by r way

-- the refusal of the level, or else the judgement of the way
abbrev pub judgement_of_texts : List ℕ → List ℕ → Result ℕ Refusal
judgement_of_texts level way = elim (read_level level) [ Ok l ↦ judgement_by (rules l) way | Err e ↦ Err e ]

-- the level text is a level, written out, and the way is right for it, with n moves
pub record Right (text way : List ℕ) (n : ℕ) : Type 0 where
  pub level : Level
  pub valid : Valid level
  pub spelled : text ≡ level_text level
  pub accepted : AcceptedWay (rules level).meaning.game (rules level).spelling way n

-- what is judged accepted is right, and what is right is judged accepted
abbrev pub JudgesExactly : List ℕ → List ℕ → Type 0
JudgesExactly text way =
    (n : ℕ) → (judgement_of_texts text way ≡ Ok n → Right text way n) × (Right text way n → judgement_of_texts text way ≡ Ok n)

-- the written moves of what is accepted are legal moves of the level's game that solve it
abbrev pub AcceptsSolutions : List ℕ → List ℕ → Type 0
AcceptsSolutions text way =
    (n : ℕ) (l : Level) → read_level text ≡ Ok l → judgement_of_texts text way ≡ Ok n
    → SolvingWay (rules l).meaning.game (rules l).spelling way n

-- `(accepted N)` or `(fault NUMBER LINE)`, and a line end
abbrev pub report_text : Result ℕ Refusal → List ℕ
report_text (Ok n) = codes "(accepted " ++ (decimal n ++ codes ")\n")
report_text (Err e) = refusal_line e
