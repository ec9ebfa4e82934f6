-- Lines: a text cut at its line ends. Assumes nothing.
use Rattle.std.proofs.Common.{◌≡◌, ℕ, suc, ◌+◌, ◌^◌, ◌<◌, ◌≤◌, Bool, true, false, cond, not, eqb, ltb, List, [], ◌∷◌, ◌++◌, length, take, drop, Some, None, Ok, Err, decimal, Option, Result, sym, refl, ap, ◌∙◌, one-add, arith}
use Rattle.std.specs.List.{All, prefix_len}
use Rattle.std.proofs.lemmas.List.Elements.{All-head, All-tail}
use Rattle.std.proofs.lemmas.List.{drop-take, drop-drop, length-drop, length-take-le}
use Rattle.std.specs.Char.{is_ascii_digit}
use Rattle.std.proofs.lemmas.Fmt.{digits_decimal}
use Rattle.std.proofs.lemmas.Bool.{ltb-true, ltb-false}
use Rattle.std.proofs.lemmas.Bool.Decides.{nat_tests}
use Rattle.text.proofs.Numbers.{own}
use Rattle.text.proofs.Whole.{whole_append, whole_digits}
use Rattle.std.proofs.lemmas.List.Sums.{prefix_len-le-length}
use Rattle.text.proofs.Cases.{never, parts}
use Rattle.text.specs.declared.line.Line.{Line}
use Rattle.text.specs.Lines.{split, with_byte_before, in_line, OneLine, line_end, line_at, line_value, bytes, join_lines, Reading, read_lines}

-- parts of one line make one line
pub one_line_append : (a b : List ℕ) → OneLine a → OneLine b → OneLine (a ++ b)
one_line_append = whole_append in_line

pub digit_in_line : (c : ℕ) → is_ascii_digit c ≡ true → in_line c ≡ true
digit_in_line c digit = grind (arith, nat_tests)

pub one_line_decimal : (n : ℕ) → n < 2 ^ 64 → OneLine (decimal n)
one_line_decimal n h = whole_digits in_line digit_in_line (decimal n) (digits_decimal own n h)

-- a text that begins with a line
pub split_line : (l rest : List ℕ) → OneLine l → split (l ++ (10 ∷ rest)) ≡ l ∷ split rest
split_line [] rest one = refl
split_line (c ∷ l) rest one = by (eqb c 10) one (split_line l rest)
  where
    by : (b : Bool) → cond (not b) (1 + prefix_len in_line l) 0 ≡ suc (length l) → (OneLine l → split (l ++ (10 ∷ rest)) ≡ l ∷ split rest) → cond b ([] ∷ split (l ++ (10 ∷ rest))) (with_byte_before c (split (l ++ (10 ∷ rest)))) ≡ (c ∷ l) ∷ split rest
    by true h more = absurd (omega arith)
    by false h more = ap (with_byte_before c) (more (omega arith))

-- a text with no line end
pub split_last : (l : List ℕ) → OneLine l → split l ≡ l ∷ []
split_last [] one = refl
split_last (c ∷ l) one = by (eqb c 10) one (split_last l)
  where
    by : (b : Bool) → cond (not b) (1 + prefix_len in_line l) 0 ≡ suc (length l) → (OneLine l → split l ≡ l ∷ []) → cond b ([] ∷ split l) (with_byte_before c (split l)) ≡ (c ∷ l) ∷ []
    by true h more = absurd (omega arith)
    by false h more = ap (with_byte_before c) (more (omega arith))

-- lines that are joined are found again
pub split_join : (ls : List (List ℕ)) → All OneLine ls → split (join_lines ls) ≡ ls ++ ([] ∷ [])
split_join [] all = refl
split_join (l ∷ ls) all = split_line l (join_lines ls) (All-head OneLine l ls all) ∙ ap (λ x. l ∷ x) (split_join ls (All-tail OneLine l ls all))

suc_form : (j : ℕ) → suc (j + 1) ≡ 1 + j + 1
suc_form j = omega arith

-- the line at the front of a text
split_front : (r : List ℕ) → prefix_len in_line r < length r → split r ≡ take (prefix_len in_line r) r ∷ split (drop (prefix_len in_line r + 1) r)
split_front [] h = absurd (omega arith)
split_front (c ∷ r) h = by (eqb c 10) h (split_front r)
  where
    by : (b : Bool) → cond (not b) (1 + prefix_len in_line r) 0 < suc (length r) → (prefix_len in_line r < length r → split r ≡ take (prefix_len in_line r) r ∷ split (drop (prefix_len in_line r + 1) r)) → cond b ([] ∷ split r) (with_byte_before c (split r)) ≡ take (cond (not b) (1 + prefix_len in_line r) 0) (c ∷ r) ∷ split (drop (cond (not b) (1 + prefix_len in_line r) 0 + 1) (c ∷ r))
    by true h more = refl
    by false h more =
        ap (with_byte_before c) (more (omega arith))
        ∙ ap (λ j. take j (c ∷ r) ∷ split (drop (prefix_len in_line r + 1) r)) (sym (one-add (prefix_len in_line r)))
        ∙ ap (λ j. take (1 + prefix_len in_line r) (c ∷ r) ∷ split (drop j (c ∷ r))) (suc_form (prefix_len in_line r))

-- a text from a place on: the line there and what follows it, or what no line end follows
module _ (t : List ℕ) (at : ℕ) where
  pub split_at : line_end t at < length t → split (drop at t) ≡ drop at (take (line_end t at) t) ∷ split (drop (line_end t at + 1) t)
  split_at h =
      let k = prefix_len in_line (drop at t) in
      let long = length-drop at t in
      let same : at + (k + 1) ≡ at + k + 1 = omega arith in
      split_front (drop at t) (omega arith)
      ∙ ap (λ l. l ∷ split (drop (k + 1) (drop at t))) (sym (drop-take at k t))
      ∙ ap (λ r. drop at (take (at + k) t) ∷ split r) (drop-drop (k + 1) at t ∙ ap (λ j. drop j t) same)

  pub split_end : length t ≤ line_end t at → split (drop at t) ≡ drop at t ∷ []
  split_end h =
      let long = length-drop at t in
      let most = prefix_len-le-length in_line (drop at t) in
      split_last (drop at t) (omega arith)

-- what `next_line` found, or that it found nothing
module _ (t : List ℕ) (at : ℕ) where
  pub record Found (l : Line) : Type 0 where
    pub ended : line_end t at < length t
    pub whole : bytes l ≡ drop at (take (line_end t at) t)
    pub long : length l.text.now ≡ line_end t at

  pub line_found : (l : Line) → line_value (Some l) ≡ line_at t at → Found l
  line_found l e = by (ltb (line_end t at) (length t)) refl e
    where
      by : (b : Bool) → ltb (line_end t at) (length t) ≡ b → ◌≡◌ {A = Option (List ℕ × ℕ)} (Some (l.text.now, l.at)) (cond b (Some (take (line_end t at) t, at)) None) → Found l
      by true p q =
          let h = ltb-true (line_end t at) (length t) p in
          let both = parts l.text.now (take (line_end t at) t) l.at at q in
          record {
            ended = h;
            whole = ap (λ k. drop k l.text.now) both.1 ∙ ap (drop at) both.0;
            long = ap length both.0 ∙ length-take-le (line_end t at) t (omega arith);
          }
      by false p q = absurd (never _ (sym q))

  pub line_missing : None ≡ line_at t at → length t ≤ line_end t at
  line_missing e = by (ltb (line_end t at) (length t)) refl e
    where
      by : (b : Bool) → ltb (line_end t at) (length t) ≡ b → ◌≡◌ {A = Option (List ℕ × ℕ)} None (cond b (Some (take (line_end t at) t, at)) None) → length t ≤ line_end t at
      by true p q = absurd (never _ q)
      by false p q = ltb-false (line_end t at) (length t) p

-- a text has at least one part
pub some_part : (t : List ℕ) → (l : List ℕ) × (ls : List (List ℕ)) × (split t ≡ l ∷ ls)
some_part [] = ([], [], refl)
some_part (c ∷ t) = by (eqb c 10) (some_part t)
  where
    by : (b : Bool) → ((l : List ℕ) × (ls : List (List ℕ)) × (split t ≡ l ∷ ls)) → (l : List ℕ) × (ls : List (List ℕ)) × (cond b ([] ∷ split t) (with_byte_before c (split t)) ≡ l ∷ ls)
    by true more = ([], split t, refl)
    by false more = (c ∷ more.0, more.1, ap (with_byte_before c) more.2)

-- a reader of lines, one line on
module _ {S E : Type 0} (take-line : S → ℕ → List ℕ → Result S E) where
  abbrev pub goes : ℕ → List (List ℕ) → Result S E → Result (Reading S) E
  goes n parts r = elim r [ Ok s ↦ read_lines take-line s (n + 1) parts | Err e ↦ Err e ]
