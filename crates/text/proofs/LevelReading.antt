-- What the lines of a text make of a level's reader, one after the other. Assumes nothing.
use Rattle.std.proofs.Common.{◌≡◌, ℕ, ◌+◌, ◌≤◌, Bool, true, false, cond, List, [], ◌∷◌, ◌++◌, length, Ok, Err, Result, sym, refl, ap, ◌∙◌}
use Rattle.std.specs.List.{All}
use Rattle.std.proofs.lemmas.List.Elements.{All-weaker}
use Rattle.std.proofs.lemmas.Bool.{cond-true}
use Rattle.refusals.specs.declared.Fault.{Fault}
use Rattle.refusals.specs.declared.Fault.TheVariants.{NotText}
use Rattle.refusals.specs.declared.Refusal.{Refusal}
use Rattle.refusals.specs.Refusals.{refusal}
use Rattle.text.specs.Lines.{is_text, split, join_lines, OneLine, Reading, read_lines, end_result}
use Rattle.text.specs.LevelReading.{Grammar, at_line, after_line, at_end, read_level}
use Rattle.text.proofs.Cases.{clash}
use Rattle.text.proofs.Lines.{goes, split_join}
use Rattle.text.proofs.Texts.{Short, one_line, is_text_lem, text_cut}

pub at_line_only : {A : Type 0} (n : ℕ) (r : Result A Fault) (a : A) → at_line n r ≡ Ok a → r ≡ Ok a
at_line_only n (Ok b) a e = cc
at_line_only n (Err f) a e = absurd (clash _ _ e)

module _ {S L : Type 0} (g : Grammar S L) where
  abbrev result : Result (Reading S) Refusal → Result L Refusal
  result r = end_result (at_end g) r

  -- the level that these lines end, or why they end none
  abbrev pub ends : S → ℕ → List (List ℕ) → Result L Refusal
  ends s n ls = result (read_lines (after_line g) s n (ls ++ ([] ∷ [])))

  abbrev after : ℕ → List (List ℕ) → Result S Refusal → Result L Refusal
  after n ls (Ok f) = ends f (n + 1) ls
  after n ls (Err e) = Err e

  result_after : (n : ℕ) (ls : List (List ℕ)) (o : Result S Refusal) → result (goes (after_line g) n (ls ++ ([] ∷ [])) o) ≡ after n ls o
  result_after n ls (Ok f) = refl
  result_after n ls (Err e) = refl

  ends_more : (s : S) (n : ℕ) (l : List ℕ) (ls : List (List ℕ)) → ends s n (l ∷ ls) ≡ after n ls (after_line g s n l)
  ends_more s n l [] = result_after n [] (after_line g s n l)
  ends_more s n l (m ∷ ls) = result_after n (m ∷ ls) (after_line g s n l)

  -- a line that is taken, and the others after it
  pub ends_by : (s f : S) (n : ℕ) (l : List ℕ) (ls : List (List ℕ)) → g.after s l ≡ Ok f → ends s n (l ∷ ls) ≡ ends f (n + 1) ls
  ends_by s f n l ls is = ends_more s n l ls ∙ ap (λ r. after n ls (at_line n r)) is

  -- where a level is read, the first line was taken, and the others after it
  pub record FirstTaken (s : S) (n : ℕ) (l : List ℕ) (ls : List (List ℕ)) (t : L) : Type 0 where
    pub state : S
    pub first : g.after s l ≡ Ok state
    pub rest : ends state (n + 1) ls ≡ Ok t

  pub first_taken : (s : S) (n : ℕ) (l : List ℕ) (ls : List (List ℕ)) (t : L) → ends s n (l ∷ ls) ≡ Ok t → FirstTaken s n l ls t
  first_taken s n l ls t is = by (after_line g s n l) refl (sym (ends_more s n l ls) ∙ is)
    where
      by : (o : Result S Refusal) → after_line g s n l ≡ o → after n ls o ≡ Ok t → FirstTaken s n l ls t
      by (Ok f) p q = record { state = f; first = at_line_only n (g.after s l) f p; rest = q }
      by (Err e) p q = absurd (clash _ _ q)

  -- what is read is a text of lines that are read
  pub record LinesOf (text : List ℕ) (t : L) : Type 0 where
    pub lines : List (List ℕ)
    pub whole : text ≡ join_lines lines
    pub read : ends g.start 1 lines ≡ Ok t

  pub lines_of : (text : List ℕ) (t : L) → read_level g text ≡ Ok t → LinesOf text t
  lines_of text t is = by (is_text text) refl is
    where
      by : (b : Bool) → is_text text ≡ b → cond b (result (read_lines (after_line g) g.start 1 (split text))) (Err (refusal NotText 0)) ≡ Ok t → LinesOf text t
      by true p q =
          let cut = text_cut text p in
          record { lines = cut.0; whole = cut.1.whole; read = ap (λ x. result (read_lines (after_line g) g.start 1 x)) (sym cut.1.parts) ∙ q }
      by false p q = absurd (clash _ _ q)

  -- short lines that are read are read as a text
  pub lines_read : (ls : List (List ℕ)) (l : List ℕ) (t : L) → All Short (ls ++ (l ∷ [])) → length ls ≤ 100 → ends g.start 1 (ls ++ (l ∷ [])) ≡ Ok t → read_level g (join_lines (ls ++ (l ∷ []))) ≡ Ok t
  lines_read ls l t short few read =
      let lines = ls ++ (l ∷ []) in
      cond-true (is_text (join_lines lines)) _ _ (is_text_lem ls l short few)
      ∙ ap (λ x. result (read_lines (after_line g) g.start 1 x)) (split_join lines (All-weaker Short OneLine one_line lines short))
      ∙ read
