-- A text taken line by line: one line more, and what a reader of lines makes of a text by another's account. Assumes nothing.
use Rattle.std.proofs.Common.{◌≡◌, ℕ, ◌+◌, true, List, [], ◌∷◌, Some, Ok, Err, Result, IfOk, sym, refl, ap, ◌∙◌, subst}
use Rattle.text.specs.declared.line.Line.{Line}
use Rattle.text.specs.declared.numbered.Lines.{Lines}
use Rattle.text.specs.Lines.{is_text, split, bytes, Reading, read_lines, end_result, read_text}
use Rattle.text.specs.Reading.{parts, NextLine, ReadsLines, map_ok, map_reading}
use Rattle.text.proofs.Lines.{some_part, goes}
use Rattle.std.proofs.lemmas.Bool.{cond-true}

-- the line that came next, and the parts after it
module _ {S E : Type 0} (Takes : S → ℕ → List ℕ → Result S E → Type 0) (s : S) (old new : Lines) (n : ℕ) (line : Line) (step : NextLine old (Some (n, line)) new) where
  from : (r : Result (Reading S) E) → ReadsLines Takes s n (bytes line ∷ parts new) r → ReadsLines Takes s old.number (parts old) r
  from r reads = subst (λ ls. ReadsLines Takes s old.number ls r) (sym step.2) (subst (λ m. ReadsLines Takes s m (bytes line ∷ parts new) r) step.0 reads)

  pub line_taken : (next : S) → Takes s n (bytes line) (Ok next) → (r : Result (Reading S) E) → ReadsLines Takes next new.number (parts new) r → ReadsLines Takes s old.number (parts old) r
  line_taken next takes r more =
      let p = some_part (bytes new.left) in
      let count : new.number ≡ n + 1 = step.1 ∙ ap (λ m. m + 1) (sym step.0) in
      from r (subst (λ ls. ReadsLines Takes s n (bytes line ∷ ls) r) (sym p.2)
      (Ok next, takes, subst (λ ls. ReadsLines Takes next (n + 1) ls r) p.2 (subst (λ m. ReadsLines Takes next m (parts new) r) count more)))

  pub line_refused : (e : E) → Takes s n (bytes line) (Err e) → ReadsLines Takes s old.number (parts old) (Err e)
  line_refused e takes =
      let p = some_part (bytes new.left) in
      from (Err e) (subst (λ ls. ReadsLines Takes s n (bytes line ∷ ls) (Err e)) (sym p.2) (Err e, takes, refl))

-- Where a line is taken as `next` says of what the view sees, so is a text. Holds is what each line keeps true of a state.
module _ {S V E : Type 0} (Takes : S → ℕ → List ℕ → Result S E → Type 0) (next : V → ℕ → List ℕ → Result V E) (view : S → V) (Holds : S → ℕ → Type 0) where
  abbrev pub Follows : Type 0
  Follows = (s : S) (n : ℕ) (l : List ℕ) (r : Result S E) → Holds s n → Takes s n l r → (map_ok view r ≡ next (view s) n l) × IfOk r (λ t. Holds t (n + 1))

  pub reads_as : Follows → (s : S) (n : ℕ) → Holds s n → (ls : List (List ℕ)) (r : Result (Reading S) E) → ReadsLines Takes s n ls r → (map_reading view r ≡ read_lines next (view s) n ls) × IfOk r (λ t. Holds t.state t.line)
  reads_as follows s n holds [] r reads = rw reads (refl, holds)
  reads_as follows s n holds (l ∷ []) r reads = rw reads (refl, holds)
  reads_as follows s n holds (l ∷ m ∷ ms) r (Ok t, takes, more) =
      let one = follows s n l (Ok t) holds takes in
      let rest = reads_as follows t (n + 1) one.1 (m ∷ ms) r more in
      (rest.0 ∙ ap (goes next n (m ∷ ms)) one.0, rest.1)
  reads_as follows s n holds (l ∷ m ∷ ms) r (Err e, takes, more) =
      let one = follows s n l (Err e) holds takes in
      rw more (ap (goes next n (m ∷ ms)) one.0, tt)

  -- the same for a whole text
  pub text_reads_as : {T : Type 0} (finish : ℕ → V → Result T E) (strange : E) → Follows → (start : S) → Holds start 1 → (t : List ℕ) (r : Result (Reading S) E) → is_text t ≡ true → ReadsLines Takes start 1 (split t) r → end_result finish (map_reading view r) ≡ read_text next finish (view start) strange t
  text_reads_as finish strange follows start holds t r is reads =
      ap (end_result finish) (reads_as follows start 1 holds (split t) r reads).0 ∙ sym (cond-true (is_text t) _ _ is)

-- the same, where nothing has to be kept true
module _ {S V E : Type 0} (Takes : S → ℕ → List ℕ → Result S E → Type 0) (next : V → ℕ → List ℕ → Result V E) (view : S → V) (follows : (s : S) (n : ℕ) (l : List ℕ) (r : Result S E) → Takes s n l r → map_ok view r ≡ next (view s) n l) where
  follows_always : Follows Takes next view (λ _ _. Unit {0})
  follows_always s n l (Ok t) holds takes = (follows s n l (Ok t) takes, tt)
  follows_always s n l (Err e) holds takes = (follows s n l (Err e) takes, tt)

  pub text_reads_view : {T : Type 0} (finish : ℕ → V → Result T E) (strange : E) (start : S) (t : List ℕ) (r : Result (Reading S) E) → is_text t ≡ true → ReadsLines Takes start 1 (split t) r → end_result finish (map_reading view r) ≡ read_text next finish (view start) strange t
  text_reads_view finish strange start t r is reads = text_reads_as Takes next view (λ _ _. Unit {0}) finish strange follows_always start tt t r is reads
