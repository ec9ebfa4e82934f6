-- What a line is when a form is read from it, and what is read from a line that spells a form. Assumes nothing.
use Rattle.std.proofs.Common.{◌≡◌, ℕ, suc, ◌+◌, ◌<◌, Bool, true, false, cond, ◌&&◌, eqb, ltb, List, [], ◌∷◌, ◌++◌, length, get_or, take, drop, Some, None, decimal, Option, sym, refl, ap, ◌∙◌, subst, append-nil, arith}
use Rattle.std.specs.List.{prefix_len}
use Rattle.std.proofs.lemmas.List.{take-append-drop, take_at, drop_more, drop_all, get_or-take, get_or_at, get_or_append_left, length-take-le, length_push}
use Rattle.std.proofs.lemmas.Bool.{ltb-true, eqb-true, cond-false, ne_eqb}
use Rattle.std.proofs.lemmas.Bool.Decides.{nat_tests}
use Rattle.text.specs.Pieces.{Keyword}
use Rattle.text.specs.Forms.{◌then◌, after_blank, number_in, after_keyword, last_only, short, count_after, count_of, size_after, size_of, inside, before_closing, arguments_after, arguments_of, content_after, content_of, closing, count_line, size_line, arguments_line, content_line, Arguments, Content, FormsHold, ContentHolds}
use Rattle.text.proofs.FormWords.{after_blank_only, first_step, after_keyword_only, after_keyword_reads, number_only_lem, number_reads}
use Rattle.text.proofs.Cases.{never, parts}
use Rattle.text.proofs.Runs.{Stops, leading_run, leading_front}

last_only_lem : {A : Type 0} (a b : A) (rest : List ℕ) → last_only (a, rest) ≡ Some b → (a ≡ b) × (rest ≡ [])
last_only_lem a b [] e = let same : a ≡ b = cc in (same, refl)
last_only_lem a b (c ∷ cs) e = absurd (never b (sym (cond-false (eqb (suc (length cs)) 0) (Some a) None (ne_eqb _ 0 (λ q. omega arith))) ∙ e))

count_after_only : (r : List ℕ) (n : ℕ) → count_after r ≡ Some n → (r ≡ 32 ∷ decimal n) × (n < 10000000)
count_after_only r n e =
    let last = first_step (number_in r) last_only n e in
    let end = last_only_lem last.0.0 n last.0.1 last.2 in
    let digits = number_only_lem r last.0.0 last.0.1 last.1 in
    let same = end.0 in (
      digits.0 ∙ ap (λ x. 32 ∷ (decimal last.0.0 ++ x)) end.1 ∙ ap (λ x. 32 ∷ x) (append-nil (decimal last.0.0)) ∙ ap (λ m. 32 ∷ decimal m) same,
      subst (λ m. m < 10000000) same digits.1,
    )

count_only : (kw l : List ℕ) (n : ℕ) → count_of kw l ≡ Some n → (l ≡ count_line kw n) × (n < 10000000)
count_only kw l n e =
    let first = first_step (after_keyword kw l) count_after n e in
    let rest = count_after_only first.0 n first.2 in
    (after_keyword_only kw l first.0 first.1 ∙ ap (λ x. 40 ∷ (kw ++ x)) rest.0, rest.1)

number_ends : (n : ℕ) → n < 10000000 → number_in (32 ∷ decimal n) ≡ Some (n, [])
number_ends n small = ap (λ x. number_in (32 ∷ x)) (sym (append-nil (decimal n))) ∙ number_reads n small [] refl

count_all : (kw : List ℕ) (n : ℕ) → Keyword kw → n < 10000000 → count_of kw (count_line kw n) ≡ Some n
count_all kw n good small =
    ap (λ o. o then count_after) (after_keyword_reads kw good (32 ∷ decimal n) refl) ∙ ap (λ o. o then last_only) (number_ends n small)

short_only : (a b w h : ℕ) → short a b ≡ Some (w, h) → (a ≡ w) × (b ≡ h) × (w < 100) × (h < 100)
short_only a b w h e = by (ltb a 100) (ltb b 100) refl refl e
  where
    by : (p q : Bool) → ltb a 100 ≡ p → ltb b 100 ≡ q → cond {A = Option (ℕ × ℕ)} (p && q) (Some (a, b)) None ≡ Some (w, h) → (a ≡ w) × (b ≡ h) × (w < 100) × (h < 100)
    by true true p q e = let both = parts a w b h e in let x = both.0 in let y = both.1 in (x, y, omega (arith, ltb-true a 100 p), omega (arith, ltb-true b 100 q))
    by true false p q e = absurd (never _ e)
    by false q p r e = absurd (never _ e)

pub size_after_only : (r : List ℕ) (w h : ℕ) → size_after r ≡ Some (w, h) → (r ≡ 32 ∷ (decimal w ++ (32 ∷ decimal h))) × (w < 100) × (h < 100)
size_after_only r w h e =
    let first = first_step (number_in r) (λ x. number_in x.1 then last_only then short x.0) (w, h) e in
    let fits = first_step (number_in first.0.1 then last_only) (short first.0.0) (w, h) first.2 in
    let second = first_step (number_in first.0.1) last_only fits.0 fits.1 in
    let limits = short_only first.0.0 fits.0 w h fits.2 in
    let end = last_only_lem second.0.0 fits.0 second.0.1 second.2 in
    let wide = number_only_lem r first.0.0 first.0.1 first.1 in
    let high = number_only_lem first.0.1 second.0.0 second.0.1 second.1 in (
      wide.0 ∙ ap (λ m. 32 ∷ (decimal m ++ first.0.1)) limits.0
          ∙ ap (λ x. 32 ∷ (decimal w ++ x))
          (high.0 ∙ ap (λ x. 32 ∷ (decimal second.0.0 ++ x)) end.1 ∙ ap (λ x. 32 ∷ x) (append-nil (decimal second.0.0))
          ∙ ap (λ m. 32 ∷ decimal m) (end.0 ∙ limits.1)),
      limits.2,
      limits.3,
    )

size_only : (kw l : List ℕ) (w h : ℕ) → size_of kw l ≡ Some (w, h) → (l ≡ size_line kw w h) × (w < 100) × (h < 100)
size_only kw l w h e =
    let first = first_step (after_keyword kw l) size_after (w, h) e in
    let rest = size_after_only first.0 w h first.2 in
    (after_keyword_only kw l first.0 first.1 ∙ ap (λ x. 40 ∷ (kw ++ x)) rest.0, rest.1, rest.2)

pub size_after_all : (w h : ℕ) → w < 100 → h < 100 → size_after (32 ∷ (decimal w ++ (32 ∷ decimal h))) ≡ Some (w, h)
size_after_all w h wide high =
    ap (λ o. o then (λ x. number_in x.1 then last_only then short x.0)) (number_reads w (omega arith) (32 ∷ decimal h) refl)
    ∙ ap (λ o. o then last_only then short w) (number_ends h (omega arith))
    ∙ grind (arith, nat_tests)

size_all : (kw : List ℕ) (w h : ℕ) → Keyword kw → w < 100 → h < 100 → size_of kw (size_line kw w h) ≡ Some (w, h)
size_all kw w h good wide high = ap (λ o. o then size_after) (after_keyword_reads kw good _ refl) ∙ size_after_all w h wide high

-- one byte is left after n of n + 1
last_byte : (l : List ℕ) (n b : ℕ) → length l ≡ n + 1 → get_or l n 0 ≡ b → drop n l ≡ b ∷ []
last_byte l n b long e = drop_more l n 0 (omega arith) ∙ ap (λ x. x ∷ drop (n + 1) l) e ∙ ap (λ r. b ∷ r) (drop_all (n + 1) l (omega arith))

pub arguments_after_only : (l xs : List ℕ) → arguments_after l ≡ Some xs → (l ≡ xs ++ closing) × Arguments xs
arguments_after_only l xs e =
    by (eqb (length l) (n + 1)) (ltb 1 n) (eqb (get_or l 0 0) 32) (eqb (get_or l n 0) 41) refl refl refl refl e
  where
    n : ℕ
    n = prefix_len inside l

    by : (p q r s : Bool) → eqb (length l) (n + 1) ≡ p → ltb 1 n ≡ q → eqb (get_or l 0 0) 32 ≡ r → eqb (get_or l n 0) 41 ≡ s → cond {A = Option (List ℕ)} (p && (q && (r && s))) (Some (take n l)) None ≡ Some xs → (l ≡ xs ++ closing) × Arguments xs
    by true true true true p q r s e =
        let same : take n l ≡ xs = cc in
        let long : length l ≡ n + 1 = eqb-true _ _ p in
        let two : 1 < n = ltb-true 1 n q in
        let size : length (take n l) ≡ n = length-take-le n l (omega arith) in (
          sym (take-append-drop n l) ∙ ap (λ r. take n l ++ r) (last_byte l n 41 long (eqb-true _ _ s)) ∙ ap (λ x. x ++ closing) same,
          subst Arguments same (record {
            blank = get_or-take n l 0 0 (omega arith) ∙ eqb-true _ _ r;
            some = omega arith;
            within = leading_front inside l ∙ sym size;
          }),
        )
    by true true true false p q r s e = absurd (never _ e)
    by true true false s p q r t e = absurd (never _ e)
    by true false r s p q t u e = absurd (never _ e)
    by false q r s p t u v e = absurd (never _ e)

arguments_only : (kw l xs : List ℕ) → arguments_of kw l ≡ Some xs → (l ≡ arguments_line kw xs) × Arguments xs
arguments_only kw l xs e =
    let first = first_step (after_keyword kw l) arguments_after xs e in
    let rest = arguments_after_only first.0 xs first.2 in
    (after_keyword_only kw l first.0 first.1 ∙ ap (λ x. 40 ∷ (kw ++ x)) rest.0, rest.1)

pub arguments_after_all : (xs : List ℕ) → Arguments xs → arguments_after (xs ++ closing) ≡ Some xs
arguments_after_all xs args =
    let n = length xs in
    let some = args.some in
    ap (before_closing (xs ++ closing)) (leading_run inside xs closing args.within refl)
    ∙ yes _ n _ _ (length_push xs 41) args.some (get_or_append_left xs closing 0 0 (omega arith) ∙ args.blank) (get_or_at xs 41 [] 0 n refl) (Some (take n (xs ++ closing)))
    ∙ ap Some (take_at xs closing n refl)
  where
    yes : (long k first last : ℕ) → long ≡ k + 1 → 1 < k → first ≡ 32 → last ≡ 41 → (x : Option (List ℕ)) → cond (eqb long (k + 1) && (ltb 1 k && (eqb first 32 && eqb last 41))) x None ≡ x
    yes long k first last p q r s x = grind (arith, nat_tests)

-- what follows a keyword is a blank, so the keyword ends there
pub stops_blank : (xs rest : List ℕ) → get_or xs 0 0 ≡ 32 → Stops (xs ++ rest)
stops_blank [] rest e = absurd (omega arith)
stops_blank (c ∷ xs) rest e = grind (arith, nat_tests)

arguments_all : (kw xs : List ℕ) → Keyword kw → Arguments xs → arguments_of kw (arguments_line kw xs) ≡ Some xs
arguments_all kw xs good args =
    ap (λ o. o then arguments_after) (after_keyword_reads kw good (xs ++ closing) (stops_blank xs closing args.blank))
    ∙ arguments_after_all xs args

pub forms_hold : FormsHold
forms_hold = record {
  count_only = count_only;
  count_all = count_all;
  size_only = size_only;
  size_all = size_all;
  arguments_only = arguments_only;
  arguments_all = arguments_all;
}

-- a blank is no bracket
blank_within : (xs : List ℕ) → prefix_len inside (32 ∷ xs) ≡ length (32 ∷ xs) → prefix_len inside xs ≡ length xs
blank_within xs e = let same : 1 + prefix_len inside xs ≡ suc (length xs) = e in omega arith

pub content_after_only : (r xs : List ℕ) → content_after r ≡ Some xs → (r ≡ 32 ∷ (xs ++ closing)) × Content xs
content_after_only r xs e =
    let args = first_step (arguments_after r) after_blank xs e in
    let spelled = arguments_after_only r args.0 args.1 in
    let rest = after_blank_only args.0 xs args.2 in
    let good : Arguments (32 ∷ xs) = subst Arguments rest spelled.1 in
    let some = good.some in
    (spelled.0 ∙ ap (λ x. x ++ closing) rest, (omega arith, blank_within xs good.within))

content_only : (kw l xs : List ℕ) → content_of kw l ≡ Some xs → (l ≡ content_line kw xs) × Content xs
content_only kw l xs e =
    let first = first_step (after_keyword kw l) content_after xs e in
    let rest = content_after_only first.0 xs first.2 in
    (after_keyword_only kw l first.0 first.1 ∙ ap (λ x. 40 ∷ (kw ++ x)) rest.0, rest.1)

pub content_after_all : (xs : List ℕ) → Content xs → content_after (32 ∷ (xs ++ closing)) ≡ Some xs
content_after_all xs content =
    let some = content.0 in
    let same = content.1 in
    let within : 1 + prefix_len inside xs ≡ suc (length xs) = omega arith in
    ap (λ o. o then after_blank) (arguments_after_all (32 ∷ xs) (record { blank = refl; some = omega arith; within = within }))

content_all : (kw xs : List ℕ) → Keyword kw → Content xs → content_of kw (content_line kw xs) ≡ Some xs
content_all kw xs good content =
    ap (λ o. o then content_after) (after_keyword_reads kw good ((32 ∷ xs) ++ closing) refl) ∙ content_after_all xs content

pub content_holds : ContentHolds
content_holds = record { only = content_only; all = content_all }
