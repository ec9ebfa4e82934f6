-- Words of a line: what was read is what stands there, and it is read again. Assumes nothing.
use Rattle.std.proofs.Common.{◌≡◌, ℕ, ◌^◌, ◌<◌, Bool, true, false, cond, eqb, ◌⊎◌, List, [], ◌∷◌, ◌++◌, Some, None, decimal, Option, sym, refl, ap, ◌∙◌, subst, inl, inr, arith}
use Rattle.std.specs.Str.{bytes_eq}
use Rattle.std.proofs.lemmas.Fmt.{decimal_nonempty, digits_decimal}
use Rattle.std.proofs.lemmas.Slice.Eq.{bytes_eq-Decides}
use Rattle.std.proofs.lemmas.Bool.{cases_eq, cond-true, cond-false, eq-eqb, ne_eqb}
use Rattle.text.specs.Pieces.{TokenValue, opens, closes, word, number, or_word, piece_in, spell, Keyword}
use Rattle.text.specs.Forms.{◌then◌, after_blank, number_only, word_only, open_only, open_in, number_in, plain_word_in, this_word, keyword_in, after_keyword}
use Rattle.text.proofs.Numbers.{reads_back, own}
use Rattle.text.proofs.Cases.{never, parts}
use Rattle.text.proofs.Runs.{Fine, piece_splits, Stops, run_reads, plain_digits}

module _ (n : ℕ) (small : n < 10000000) where
  fits : n < 2 ^ 64
  fits = omega arith

  pub number_reads : (rest : List ℕ) → Stops rest → number_in (32 ∷ (decimal n ++ rest)) ≡ Some (n, rest)
  number_reads rest stops =
      ap (λ o. o then number_only) (run_reads (decimal n) rest (plain_digits (decimal n) (digits_decimal own n fits)) (decimal_nonempty n fits) stops)
      ∙ ap (λ o. number_only (or_word (decimal n) o, rest)) (reads_back n small)

-- where two steps answer, the first did
pub first_step : {A B : Type 0} (o : Option A) (f : A → Option B) (b : B) → (o then f) ≡ Some b → (a : A) × (o ≡ Some a) × (f a ≡ Some b)
first_step (Some a) f b e = (a, refl, e)
first_step None f b e = absurd (never _ e)

pub after_blank_only : (l rest : List ℕ) → after_blank l ≡ Some rest → l ≡ 32 ∷ rest
after_blank_only [] rest e = absurd (never _ e)
after_blank_only (b ∷ bs) rest e = by (cases_eq b 32)
  where
    by : (b ≡ 32) ⊎ (b ≡ 32 → ⊥) → b ∷ bs ≡ 32 ∷ rest
    by (inl p) = let q : Some bs ≡ Some rest = sym (cond-true (eqb b 32) _ _ (eq-eqb b 32 p)) ∙ e in cc
    by (inr p) = absurd (never rest (sym (cond-false (eqb b 32) _ _ (ne_eqb b 32 p)) ∙ e))

number_only_parts : (s : TokenValue) (left : List ℕ) (n : ℕ) (rest : List ℕ) → number_only (s, left) ≡ Some (n, rest) → (s ≡ number n) × (left ≡ rest)
number_only_parts opens left n rest e = absurd (never _ e)
number_only_parts closes left n rest e = absurd (never _ e)
number_only_parts (word w) left n rest e = absurd (never _ e)
number_only_parts (number m) left n rest e = let both = parts m n left rest e in (ap number both.0, both.1)

word_only_parts : (s : TokenValue) (left w rest : List ℕ) → word_only (s, left) ≡ Some (w, rest) → (s ≡ word w) × (left ≡ rest)
word_only_parts opens left w rest e = absurd (never _ e)
word_only_parts closes left w rest e = absurd (never _ e)
word_only_parts (word v) left w rest e = let both = parts v w left rest e in (ap word both.0, both.1)
word_only_parts (number m) left w rest e = absurd (never _ e)

open_only_parts : (s : TokenValue) (left rest : List ℕ) → open_only (s, left) ≡ Some rest → (s ≡ opens) × (left ≡ rest)
open_only_parts opens left rest e = let same : left ≡ rest = cc in (refl, same)
open_only_parts closes left rest e = absurd (never _ e)
open_only_parts (word v) left rest e = absurd (never _ e)
open_only_parts (number m) left rest e = absurd (never _ e)

-- the piece s at the front, and what is left
piece_was : (l : List ℕ) (s r : TokenValue) (left rest : List ℕ) → piece_in l ≡ Some (s, left) → s ≡ r → left ≡ rest → (l ≡ spell r ++ rest) × Fine r
piece_was l s r left rest e p q =
    let h = piece_splits l s left e in
    (h.0 ∙ ap (λ x. spell x ++ left) p ∙ ap (λ x. spell r ++ x) q, subst Fine p h.1)

pub number_only_lem : (l : List ℕ) (n : ℕ) (rest : List ℕ) → number_in l ≡ Some (n, rest) → (l ≡ 32 ∷ (decimal n ++ rest)) × (n < 10000000)
number_only_lem l n rest e =
    let last = first_step (after_blank l then piece_in) number_only (n, rest) e in
    let first = first_step (after_blank l) piece_in last.0 last.1 in
    let parts = number_only_parts last.0.0 last.0.1 n rest last.2 in
    let was = piece_was first.0 last.0.0 (number n) last.0.1 rest first.2 parts.0 parts.1 in
    (after_blank_only l first.0 first.1 ∙ ap (λ x. 32 ∷ x) was.0, was.1)

pub plain_word_only : (l w rest : List ℕ) → plain_word_in l ≡ Some (w, rest) → l ≡ w ++ rest
plain_word_only l w rest e =
    let last = first_step (piece_in l) word_only (w, rest) e in
    let parts = word_only_parts last.0.0 last.0.1 w rest last.2 in
    (piece_was l last.0.0 (word w) last.0.1 rest last.1 parts.0 parts.1).0

this_word_lem : (kw w left rest : List ℕ) → this_word kw (w, left) ≡ Some rest → (w ≡ kw) × (left ≡ rest)
this_word_lem kw w left rest e = by (bytes_eq w kw) refl e
  where
    by : (b : Bool) → bytes_eq w kw ≡ b → cond b (Some left) None ≡ Some rest → (w ≡ kw) × (left ≡ rest)
    by true p q = let same : left ≡ rest = cc in ((bytes_eq-Decides w kw).0 p, same)
    by false p q = absurd (never _ q)

-- the keyword of a line stands behind its bracket
pub keyword_only : (l w rest : List ℕ) → keyword_in l ≡ Some (w, rest) → l ≡ 40 ∷ (w ++ rest)
keyword_only l w rest e =
    let next = first_step (open_in l) plain_word_in (w, rest) e in
    let first = first_step (piece_in l) open_only next.0 next.1 in
    let parts = open_only_parts first.0.0 first.0.1 next.0 first.2 in
    (piece_was l first.0.0 opens first.0.1 next.0 first.1 parts.0 parts.1).0
    ∙ ap (λ x. 40 ∷ x) (plain_word_only next.0 w rest next.2)

pub after_keyword_only : (kw l rest : List ℕ) → after_keyword kw l ≡ Some rest → l ≡ 40 ∷ (kw ++ rest)
after_keyword_only kw l rest e =
    let last = first_step (keyword_in l) (this_word kw) rest e in
    let this = this_word_lem kw last.0.0 last.0.1 rest last.2 in
    keyword_only l last.0.0 last.0.1 last.1 ∙ ap (λ w. 40 ∷ (w ++ last.0.1)) this.0 ∙ ap (λ r. 40 ∷ (kw ++ r)) this.1

module _ (kw : List ℕ) (good : Keyword kw) where
  plain_word_reads : (rest : List ℕ) → Stops rest → plain_word_in (kw ++ rest) ≡ Some (kw, rest)
  plain_word_reads rest stops =
      ap (λ o. o then word_only) (run_reads kw rest good.plainly good.some stops) ∙ ap (λ o. word_only (or_word kw o, rest)) good.unlike

  pub keyword_reads : (rest : List ℕ) → Stops rest → keyword_in (40 ∷ (kw ++ rest)) ≡ Some (kw, rest)
  keyword_reads rest stops = plain_word_reads rest stops

  pub this_word_reads : (rest : List ℕ) → this_word kw (kw, rest) ≡ Some rest
  this_word_reads rest = cond-true (bytes_eq kw kw) _ _ ((bytes_eq-Decides kw kw).1 refl)

  pub after_keyword_reads : (rest : List ℕ) → Stops rest → after_keyword kw (40 ∷ (kw ++ rest)) ≡ Some rest
  after_keyword_reads rest stops = ap (λ o. o then this_word kw) (keyword_reads rest stops) ∙ this_word_reads rest
