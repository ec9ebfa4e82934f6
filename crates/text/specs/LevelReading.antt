-- How the levels of a kind are read from text: line by line, with a refusal by fault and line. Assumes nothing.
use Rattle.std.specs.Prelude.{◌≡◌, ℕ, ◌-◌, List, Some, None, Ok, Err, Option, Result}
use Rattle.refusals.specs.declared.Fault.{Fault}
use Rattle.refusals.specs.declared.Refusal.{Refusal}
use Rattle.refusals.specs.Refusals.{refusal, refused}
use Rattle.text.specs.Lines.{read_text}

-- the lines of a kind: the state before the first line, the state after a line or why the line is refused, and where no
-- line is due the level or why there is none
pub record Grammar (S L : Type 0) : Type 0 where
  pub start : S
  pub after : S → List ℕ → Result S Fault
  pub level : S → Option (Result L Fault)

-- a refusal that names line n
abbrev pub at_line : {A : Type 0} → ℕ → Result A Fault → Result A Refusal
at_line n (Ok a) = Ok a
at_line n (Err f) = Err (refusal f n)

-- where line n would come next: an early end is refused there, and a level as a whole at its last line
abbrev pub level_before : {L : Type 0} → ℕ → Option (Result L Fault) → Result L Refusal
level_before n (Some r) = at_line (n - 1) r
level_before n None = Err (refused 12 n)

module _ {S L : Type 0} (g : Grammar S L) where
  -- the state after line n
  abbrev pub after_line : S → ℕ → List ℕ → Result S Refusal
  after_line s n l = at_line n (g.after s l)

  -- the level at the end of a text, where line n would come next
  abbrev pub at_end : ℕ → S → Result L Refusal
  at_end n s = level_before n (g.level s)

  -- the level that a text spells, or why it spells none
  abbrev pub read_level : List ℕ → Result L Refusal
  read_level text = read_text after_line at_end g.start (refused 11 0) text

-- a text is read as a level exactly where it is that level written out
pub record ReadsExactly {L : Type 0} (read : List ℕ → Result L Refusal) (Valid : L → Type 0) (level_text : L → List ℕ) (text : List ℕ) : Type 0 where
  pub only : (l : L) → read text ≡ Ok l → Valid l × (text ≡ level_text l)
  pub all : (l : L) → Valid l → read (level_text l) ≡ Ok l
