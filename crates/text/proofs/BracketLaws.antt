-- The bracket of a line, and the keyword of a text. Assumes nothing.
use Rattle.std.proofs.Common.{◌≡◌, ℕ, ◌<◌, Bool, true, false, cond, ltb, List, ◌∷◌, ◌++◌, length, take, Some, None, Option, codes, sym, refl, ap, ◌∙◌, subst, arith, lit<}
use Rattle.std.specs.Option.{option_map}
use Rattle.std.specs.Str.{bytes_eq}
use Rattle.std.proofs.lemmas.Slice.Eq.{bytes_eq-Decides}
use Rattle.std.proofs.lemmas.List.{take_at, length-append}
use Rattle.std.proofs.lemmas.Bool.{cond-true, lt-ltb}
use Rattle.text.specs.Lines.{in_line, OneLine, line_end, line_at, join_lines}
use Rattle.text.specs.Pieces.{Keyword}
use Rattle.text.specs.Forms.{◌then◌, keyword_in, first_keyword, size_after, arguments_after, content_after, closing, size_line, arguments_line, content_line, is_closing, BracketValue, opened, closed, bracket_in, bracket_form, line_form}
use Rattle.text.proofs.Cases.{never}
use Rattle.text.proofs.Runs.{Stops, leading_run}
use Rattle.text.proofs.FormWords.{keyword_only, keyword_reads}
use Rattle.text.proofs.FormLaws.{size_after_only, arguments_after_only, content_after_only}

abbrev by_keyword : Option (List ℕ × List ℕ) → Option BracketValue
by_keyword o = o then (λ k. Some (opened k.0 k.1))

-- a line is the one that its bracket spells
abbrev Spells : List ℕ → BracketValue → Type 0
Spells l (opened kw rest) = l ≡ 40 ∷ (kw ++ rest)
Spells l closed = l ≡ closing

bracket_only : (l : List ℕ) (b : BracketValue) → bracket_in l ≡ Some b → Spells l b
bracket_only l b e = by (is_closing l) refl (keyword_in l) refl b e
  where
    by : (c : Bool) → is_closing l ≡ c → (o : Option (List ℕ × List ℕ)) → keyword_in l ≡ o → (b : BracketValue) → cond c (Some closed) (by_keyword o) ≡ Some b → Spells l b
    by true p o q closed e = (bytes_eq-Decides l closing).0 p
    by true p o q (opened kw rest) e = absurd (cc)
    by false p (Some k) q (opened kw rest) e =
        let word : k.0 ≡ kw = cc in
        let same : k.1 ≡ rest = cc in
        keyword_only l k.0 k.1 q ∙ ap (λ w. 40 ∷ (w ++ k.1)) word ∙ ap (λ r. 40 ∷ (kw ++ r)) same
    by false p (Some k) q closed e = absurd (cc)
    by false p None q b e = absurd (never _ e)

-- what holds of the line with each keyword, of a lone closing bracket and of other lines holds of each line
module _ {F : Type 0} (keyword_form : List ℕ → List ℕ → Option F) (close : F) (Has : List ℕ → Option F → Type 0) where
  pub line_has : ((kw rest : List ℕ) → Has (40 ∷ (kw ++ rest)) (keyword_form kw rest)) → Has closing (Some close) → ((l : List ℕ) → Has l None) → (l : List ℕ) → Has l (line_form keyword_form close l)
  line_has opens closes others l = by (bracket_in l) (bracket_only l)
    where
      by : (o : Option BracketValue) → ((b : BracketValue) → o ≡ Some b → Spells l b) → Has l (o then bracket_form keyword_form close)
      by (Some (opened kw rest)) only = subst (λ x. Has x (keyword_form kw rest)) (sym (only (opened kw rest) refl)) (opens kw rest)
      by (Some closed) only = subst (λ x. Has x (Some close)) (sym (only closed refl)) closes
      by None only = others l

-- a line of a form with this word as its keyword
module _ {F : Type 0} (Has : List ℕ → Option F → Type 0) (others : (l : List ℕ) → Has l None) (kw word rest : List ℕ) (same : bytes_eq kw word ≡ true) where
  of_word : (x : Option F) → Has (40 ∷ (word ++ rest)) x → Has (40 ∷ (kw ++ rest)) x
  of_word x has = subst (λ k. Has (40 ∷ (k ++ rest)) x) (sym ((bytes_eq-Decides kw word).0 same)) has

  -- where what holds of no form holds of each line, the form by what is left has what holds of the lines that spell it
  pub size_has : (make : ℕ → ℕ → F) → ((w h : ℕ) → Has (size_line word w h) (Some (make w h))) → Has (40 ∷ (kw ++ rest)) (option_map (λ s. make s.0 s.1) (size_after rest))
  size_has make has = of_word _ (by (size_after rest) refl)
    where
      by : (o : Option (ℕ × ℕ)) → size_after rest ≡ o → Has (40 ∷ (word ++ rest)) (option_map (λ s. make s.0 s.1) o)
      by (Some (w, h)) e = subst (λ r. Has (40 ∷ (word ++ r)) (Some (make w h))) (sym (size_after_only rest w h e).0) (has w h)
      by None e = others _

  pub arguments_has : (make : List ℕ → F) → ((x : List ℕ) → Has (arguments_line word x) (Some (make x))) → Has (40 ∷ (kw ++ rest)) (option_map make (arguments_after rest))
  arguments_has make has = of_word _ (by (arguments_after rest) refl)
    where
      by : (o : Option (List ℕ)) → arguments_after rest ≡ o → Has (40 ∷ (word ++ rest)) (option_map make o)
      by (Some x) e = subst (λ r. Has (40 ∷ (word ++ r)) (Some (make x))) (sym (arguments_after_only rest x e).0) (has x)
      by None e = others _

  pub content_has : (make : List ℕ → F) → ((x : List ℕ) → Has (content_line word x) (Some (make x))) → Has (40 ∷ (kw ++ rest)) (option_map make (content_after rest))
  content_has make has = of_word _ (by (content_after rest) refl)
    where
      by : (o : Option (List ℕ)) → content_after rest ≡ o → Has (40 ∷ (word ++ rest)) (option_map make o)
      by (Some x) e = subst (λ r. Has (40 ∷ (word ++ r)) (Some (make x))) (sym (content_after_only rest x e).0) (has x)
      by None e = others _

-- the line at the front of a text
first_line : (l rest : List ℕ) → OneLine l → line_at (l ++ (10 ∷ rest)) 0 ≡ Some (l, 0)
first_line l rest one =
    let t = l ++ (10 ∷ rest) in
    let end : line_end t 0 ≡ length l = omega (arith, leading_run in_line l (10 ∷ rest) one refl) in
    let inside : length l < length t = omega (arith, length-append l (10 ∷ rest)) in
    ap cut end ∙ cond-true (ltb (length l) (length t)) _ _ (lt-ltb _ _ inside) ∙ ap front (take_at l (10 ∷ rest) (length l) refl)
  where
    cut : ℕ → Option (List ℕ × ℕ)
    cut k = cond (ltb k (length (l ++ (10 ∷ rest)))) (Some (take k (l ++ (10 ∷ rest)), 0)) None

    front : List ℕ → Option (List ℕ × ℕ)
    front x = Some (x, 0)

-- the keyword of a row
pub row_word : Keyword (codes "row")
row_word = record { some = lit< tt; plainly = refl; unlike = refl }

module _ (kw : List ℕ) (good : Keyword kw) where
  pub bracket_reads : (rest : List ℕ) → Stops rest → bracket_in (40 ∷ (kw ++ rest)) ≡ Some (opened kw rest)
  bracket_reads rest stops = ap by_keyword (keyword_reads kw good rest stops)

  -- the form of a line with the keyword
  module _ {F : Type 0} (keyword_form : List ℕ → List ℕ → Option F) (close : F) where
    pub form_reads : (rest : List ℕ) → Stops rest → line_form keyword_form close (40 ∷ (kw ++ rest)) ≡ keyword_form kw rest
    form_reads rest stops = ap (λ o. o then bracket_form keyword_form close) (bracket_reads rest stops)

  -- a text whose first line has the keyword
  pub first_keyword_reads : (rest : List ℕ) (ls : List (List ℕ)) → Stops rest → OneLine (40 ∷ (kw ++ rest)) → first_keyword (join_lines ((40 ∷ (kw ++ rest)) ∷ ls)) ≡ Some kw
  first_keyword_reads rest ls stops one =
      ap (λ o. o then (λ x. keyword_in x.0) then (λ k. Some k.0)) (first_line (40 ∷ (kw ++ rest)) (join_lines ls) one)
      ∙ ap (λ o. o then (λ k. Some k.0)) (keyword_reads kw good rest stops)
