-- Runs of bytes and the pieces they spell: what was read is what stands there, and it is read again. Assumes nothing.
use Rattle.std.proofs.Common.{◌≡◌, ℕ, suc, ◌+◌, ◌<◌, Bool, true, false, cond, eqb, List, [], ◌∷◌, ◌++◌, length, take, drop, Some, None, Option, sym, refl, ap, ◌∙◌, subst, ⊎_elim, one-add, arith}
use Rattle.std.specs.Char.{is_ascii_digit}
use Rattle.std.specs.List.{prefix_len}
use Rattle.std.specs.Str.{all_ascii_digits}
use Rattle.std.proofs.lemmas.List.{take-append-drop, take_at, drop_at}
use Rattle.std.proofs.lemmas.Bool.{cases_eq, cond-true, cond-false, eq-eqb, ne_eqb}
use Rattle.std.proofs.lemmas.Bool.Decides.{nat_tests}
use Rattle.text.specs.Numbers.{read_number}
use Rattle.text.specs.Pieces.{TokenValue, opens, closes, word, number, plain, or_word, of_run, piece_in, spell}
use Rattle.text.proofs.Cases.{never, parts}
use Rattle.text.proofs.Numbers.{only_that}
use Rattle.text.proofs.Whole.{whole_digits}

-- what a piece that was read can be
abbrev pub Fine : TokenValue → Type 0
Fine opens = Unit {0}
Fine closes = Unit {0}
Fine (word w) = Unit {0}
Fine (number n) = n < 10000000

-- a run spells itself
spell_run : (w : List ℕ) (o : Option ℕ) → read_number w ≡ o → (spell (or_word w o) ≡ w) × Fine (or_word w o)
spell_run w (Some n) e = only_that w n e
spell_run w None e = (refl, tt)

-- a piece and what is left, where the line is known to be both
joined : (l w : List ℕ) (r s : TokenValue) (left rest : List ℕ) → l ≡ w ++ left → (spell r ≡ w) × Fine r → ◌≡◌ {A = Option (TokenValue × List ℕ)} (Some (r, left)) (Some (s, rest)) → (l ≡ spell s ++ rest) × Fine s
joined l w r s left rest whole spelt e =
    let both = parts r s left rest e in (
      whole ∙ ap (λ x. x ++ left) (sym spelt.0) ∙ ap (λ x. spell x ++ left) both.0 ∙ ap (λ x. spell s ++ x) both.1,
      subst Fine both.0 spelt.1,
    )

run_splits : (l : List ℕ) (s : TokenValue) (rest : List ℕ) (b : Bool) → cond {A = Option (TokenValue × List ℕ)} b None (Some (of_run (take (prefix_len plain l) l), drop (prefix_len plain l) l)) ≡ Some (s, rest) → (l ≡ spell s ++ rest) × Fine s
run_splits l s rest true e = absurd (never _ e)
run_splits l s rest false e =
    let w = take (prefix_len plain l) l in
    joined l w (of_run w) s (drop (prefix_len plain l) l) rest (sym (take-append-drop (prefix_len plain l) l)) (spell_run w (read_number w) refl) e

-- the piece at the front of a line is spelled there
pub piece_splits : (l : List ℕ) (s : TokenValue) (rest : List ℕ) → piece_in l ≡ Some (s, rest) → (l ≡ spell s ++ rest) × Fine s
piece_splits [] s rest e = absurd (never _ e)
piece_splits (b ∷ bs) s rest e =
    ⊎_elim
    (λ p. joined (b ∷ bs) (40 ∷ []) opens s bs rest (ap (λ x. x ∷ bs) p) (refl, tt) (sym (cond-true (eqb b 40) _ _ (eq-eqb b 40 p)) ∙ e))
    (λ p.
    let t = sym (cond-false (eqb b 40) _ _ (ne_eqb b 40 p)) ∙ e in
    ⊎_elim
    (λ q. joined (b ∷ bs) (41 ∷ []) closes s bs rest (ap (λ x. x ∷ bs) q) (refl, tt) (sym (cond-true (eqb b 41) _ _ (eq-eqb b 41 q)) ∙ t))
    (λ q. run_splits (b ∷ bs) s rest _ (sym (cond-false (eqb b 41) _ _ (ne_eqb b 41 q)) ∙ t))
    (cases_eq b 41))
    (cases_eq b 40)

-- where a run of plain bytes ends
abbrev pub Stops : List ℕ → Type 0
Stops rest = prefix_len plain rest ≡ 0

-- a front that passes a test, before a rest that does not
pub leading_run : (p : ℕ → Bool) (w rest : List ℕ) → prefix_len p w ≡ length w → prefix_len p rest ≡ 0 → prefix_len p (w ++ rest) ≡ length w
leading_run p [] rest all stops = stops
leading_run p (c ∷ w) rest all stops = by (p c) all (leading_run p w rest)
  where
    by : (b : Bool) → cond b (1 + prefix_len p w) 0 ≡ suc (length w) → (prefix_len p w ≡ length w → prefix_len p rest ≡ 0 → prefix_len p (w ++ rest) ≡ length w) → cond b (1 + prefix_len p (w ++ rest)) 0 ≡ suc (length w)
    by true h more = let k : prefix_len p w ≡ length w = omega arith in omega (arith, more k stops)
    by false h more = absurd (omega arith)

pub leading_front : (p : ℕ → Bool) (l : List ℕ) → prefix_len p (take (prefix_len p l) l) ≡ prefix_len p l
leading_front p [] = refl
leading_front p (c ∷ l) = by (p c) refl (leading_front p l)
  where
    by : (b : Bool) → p c ≡ b → prefix_len p (take (prefix_len p l) l) ≡ prefix_len p l → prefix_len p (take (cond b (1 + prefix_len p l) 0) (c ∷ l)) ≡ cond b (1 + prefix_len p l) 0
    by true e more =
        ap (λ k. prefix_len p (take k (c ∷ l))) (one-add (prefix_len p l)) ∙ cond-true (p c) _ _ e ∙ ap (λ k. 1 + k) more
    by false e more = refl

no_bracket : (c : ℕ) (w : List ℕ) → prefix_len plain (c ∷ w) ≡ length {A = ℕ} (c ∷ w) → (c ≡ 40 → ⊥) × (c ≡ 41 → ⊥)
no_bracket c w all = ((λ e. grind (arith, nat_tests)), λ e. grind (arith, nat_tests))

-- a run of plain bytes is read whole
pub run_reads : (w rest : List ℕ) → prefix_len plain w ≡ length w → 0 < length w → Stops rest → piece_in (w ++ rest) ≡ Some (of_run w, rest)
run_reads [] rest all some stops = absurd (omega arith)
run_reads (c ∷ w) rest all some stops =
    let l = c ∷ (w ++ rest) in
    let other = no_bracket c w all in
    let long : prefix_len plain l ≡ suc (length w) = leading_run plain (c ∷ w) rest all stops in
    cond-false (eqb c 40) _ _ (ne_eqb c 40 other.0) ∙ cond-false (eqb c 41) _ _ (ne_eqb c 41 other.1)
    ∙ cond-false (eqb (prefix_len plain l) 0) _ _ (ne_eqb _ 0 (λ e. omega arith))
    ∙ ap (λ k. Some (of_run (take k l), drop k l)) long
    ∙ ap (λ x. Some (of_run x, drop (suc (length w)) l)) (take_at (c ∷ w) rest (suc (length w)) refl)
    ∙ ap (λ x. Some (of_run (c ∷ w), x)) (drop_at (c ∷ w) rest (suc (length w)) refl)

-- digits are plain bytes
pub plain_digits : (ds : List ℕ) → all_ascii_digits ds ≡ true → prefix_len plain ds ≡ length ds
plain_digits = whole_digits plain plain_digit
  where
    plain_digit : (c : ℕ) → is_ascii_digit c ≡ true → plain c ≡ true
    plain_digit c digit = grind (arith, nat_tests)
