-- A text taken line by line. Assumes nothing.
use Rattle.std.specs.Prelude.{◌≡◌, ℕ, ◌+◌, List, [], ◌∷◌, Ok, Err, Option, Result, MatchOption, MatchResult}
use Rattle.text.specs.declared.line.Line.{Line}
use Rattle.text.specs.declared.numbered.Lines.{Lines}
use Rattle.text.specs.declared.read_text.ReadText.{ReadText}
use Rattle.text.specs.Lines.{split, bytes, Reading, reading}

-- the parts of the text that are left
abbrev pub parts : Lines → List (List ℕ)
parts s = split (bytes s.left)

-- the line at the front with its number, where a line end follows
abbrev pub NextLine : Lines → Option (ℕ × Line) → Lines → Type 0
NextLine s r t =
    MatchOption r ((parts s ≡ bytes s.left ∷ []) × (t ≡ s))
    (λ x. (x.0 ≡ s.number) × (t.number ≡ s.number + 1) × (parts s ≡ bytes x.1 ∷ parts t))

-- the state that a call left, or its error
abbrev pub state_after : {S E : Type 0} → Result (Unit {0}) E → S → Result S E
state_after (Ok _) s = Ok s
state_after (Err e) s = Err e

-- `read_lines` of `Lines`, where a relation says what a state may make of a line
abbrev pub ReadsLines : {S E : Type 0} → (S → ℕ → List ℕ → Result S E → Type 0) → S → ℕ → List (List ℕ) → Result (Reading S) E → Type 0
ReadsLines Takes s n [] r = r ≡ Ok (reading s n [])
ReadsLines Takes s n (l ∷ []) r = r ≡ Ok (reading s n l)
ReadsLines {S} {E} Takes s n (l ∷ m ∷ ms) r =
    (o : Result S E) × Takes s n l o × MatchResult o (λ t. ReadsLines Takes t (n + 1) (m ∷ ms) r) (λ e. r ≡ Err e)

abbrev pub as_reading : {S E : Type 0} → Result (ReadText S) E → Result (Reading S) E
as_reading (Ok r) = Ok (reading r.reader r.number (bytes r.left))
as_reading (Err e) = Err e

-- what a view sees of the states
module _ {S V E : Type 0} (view : S → V) where
  abbrev pub map_ok : Result S E → Result V E
  map_ok (Ok s) = Ok (view s)
  map_ok (Err e) = Err e

  abbrev pub map_reading : Result (Reading S) E → Result (Reading V) E
  map_reading (Ok r) = Ok (reading (view r.state) r.line r.left)
  map_reading (Err e) = Err e
