-- Texts of printed lines: they are texts, and a text that is read is cut into such lines. Assumes nothing.
use Rattle.std.proofs.Common.{◌≡◌, ℕ, suc, ◌+◌, ◌-◌, ◌*◌, ◌^◌, ◌<◌, ◌≤◌, Bool, true, false, cond, ◌&&◌, eqb, ltb, leb, List, [], ◌∷◌, ◌++◌, length, get_or, take, drop, decimal, sym, refl, ap, ◌∙◌, append_assoc, arith}
use Rattle.std.specs.List.{All, prefix_len}
use Rattle.std.proofs.lemmas.Fmt.{decimal_by_steps, length-decimal-le}
use Rattle.std.proofs.lemmas.List.Elements.{All-nil, All-cons, All-head, All-tail, All-append, All-push, All-weaker}
use Rattle.std.proofs.lemmas.List.{length-append, length_push, get_or_at, take-append-drop, drop_more, drop_all}
use Rattle.std.proofs.lemmas.Bool.{cond-true, and_from, and_parts, ltb-true, eqb-true}
use Rattle.std.proofs.lemmas.Bool.Decides.{nat_tests}
use Rattle.text.specs.Lines.{text_byte, all_text, is_text, with_byte_before, split, join_lines, in_line, OneLine}
use Rattle.text.specs.Forms.{closing, size_line}
use Rattle.text.proofs.Lines.{some_part}

-- a byte that may stand in a line
abbrev pub Printed : ℕ → Type 0
Printed b = (32 ≤ b) × (b ≤ 126)

abbrev all_printed : List ℕ → Bool
all_printed [] = true
all_printed (b ∷ bs) = (leb 32 b && leb b 126) && all_printed bs

-- for bytes that are known, by `refl`
pub printed_by : (l : List ℕ) → all_printed l ≡ true → All Printed l
printed_by [] is = All-nil Printed
printed_by (b ∷ l) is = let both = and_parts (leb 32 b && leb b 126) _ is in All-cons Printed b l (here b both.0) (printed_by l both.1)
  where
    here : (b : ℕ) → leb 32 b && leb b 126 ≡ true → Printed b
    here b is = (grind (arith, nat_tests), grind (arith, nat_tests))

-- what holds of each digit holds of each byte of a number
pub decimal_each : (P : ℕ → Type 0) → ((d : ℕ) → d < 10 → P (48 + d)) → (n : ℕ) → n < 2 ^ 64 → All P (decimal n)
decimal_each P digit n fits =
    decimal_by_steps (λ m ds. All P ds) (λ m small. All-cons P (48 + m) [] (digit m small) (All-nil P))
    (λ m ds big before. All-push P ds _ before (digit _ (omega arith))) n fits

decimal_printed : (n : ℕ) → n < 2 ^ 64 → All Printed (decimal n)
decimal_printed = decimal_each Printed (λ d small. (omega arith, omega arith))

pub blank_printed : Printed 32
blank_printed = (omega arith, omega arith)

-- a line of such bytes that is not too long
pub record Short (l : List ℕ) : Type 0 where
  pub printed : All Printed l
  pub short : length l ≤ 24

pub short_size : (kw : List ℕ) (w h : ℕ) → All Printed kw → length kw ≤ 16 → w < 100 → h < 100 → Short (size_line kw w h)
short_size kw w h printed brief hw hh = record {
  printed =
      All-cons Printed 40 (kw ++ (32 ∷ (decimal w ++ (32 ∷ decimal h)))) (omega arith, omega arith)
      (All-append Printed kw (32 ∷ (decimal w ++ (32 ∷ decimal h))) printed
      (All-cons Printed 32 (decimal w ++ (32 ∷ decimal h)) blank_printed
      (All-append Printed (decimal w) (32 ∷ decimal h) (decimal_printed w (omega arith)) (All-cons Printed 32 (decimal h) blank_printed (decimal_printed h (omega arith))))));
  short =
      omega (arith, length-append kw (32 ∷ (decimal w ++ (32 ∷ decimal h))), length-append (decimal w) (32 ∷ decimal h), length-decimal-le 2 w (omega arith) hw (omega arith), length-decimal-le 2 h (omega arith) hh (omega arith));
}

pub short_closing : Short closing
short_closing = record { printed = printed_by closing refl; short = omega arith }

pub leading_all : (p : ℕ → Bool) (l : List ℕ) → All (λ b. p b ≡ true) l → prefix_len p l ≡ length l
leading_all p [] all = refl
leading_all p (b ∷ l) all =
    let more = leading_all p l (All-tail (λ c. p c ≡ true) b l all) in
    let one : 1 + prefix_len p l ≡ suc (length l) = omega arith in
    cond-true (p b) _ _ (All-head (λ c. p c ≡ true) b l all) ∙ one

pub one_line : (l : List ℕ) → Short l → OneLine l
one_line l short =
    leading_all in_line l (All-weaker Printed (λ b. in_line b ≡ true) (λ b h. grind (arith, nat_tests)) l short.printed)

-- such lines make a text
all_text_line : (l rest : List ℕ) → All Printed l → all_text rest ≡ true → all_text (l ++ (10 ∷ rest)) ≡ true
all_text_line [] rest all more = more
all_text_line (b ∷ l) rest all more = and_from _ _ (here b (All-head Printed b l all)) (all_text_line l rest (All-tail Printed b l all) more)
  where
    here : (b : ℕ) → Printed b → text_byte b ≡ true
    here b h = grind (arith, nat_tests)

all_text_lines : (ls : List (List ℕ)) → All Short ls → all_text (join_lines ls) ≡ true
all_text_lines [] all = refl
all_text_lines (l ∷ ls) all = all_text_line l (join_lines ls) (All-head Short l ls all).printed (all_text_lines ls (All-tail Short l ls all))

length_lines : (ls : List (List ℕ)) → All Short ls → length (join_lines ls) ≤ 25 * length ls
length_lines [] all = omega arith
length_lines (l ∷ ls) all =
    let more = length_lines ls (All-tail Short l ls all) in
    let this = (All-head Short l ls all).short in
    omega (arith, length-append l (10 ∷ join_lines ls))

-- the last line's end is the text's
last_end : (ls : List (List ℕ)) (l : List ℕ) → join_lines (ls ++ (l ∷ [])) ≡ (join_lines ls ++ l) ++ (10 ∷ [])
last_end [] l = refl
last_end (m ∷ ls) l =
    ap (λ t. m ++ (10 ∷ t)) (last_end ls l)
    ∙ sym (append_assoc m (10 ∷ (join_lines ls ++ l)) (10 ∷ []))
    ∙ ap (λ t. t ++ (10 ∷ [])) (sym (append_assoc m (10 ∷ join_lines ls) l))

last_byte : (u : List ℕ) → get_or (u ++ (10 ∷ [])) (length (u ++ (10 ∷ [])) - 1) 0 ≡ 10
last_byte u =
    let place : length u ≡ length (u ++ (10 ∷ [])) - 1 = omega (arith, length_push u 10) in
    get_or_at u 10 [] 0 _ place

pub is_text_lem : (ls : List (List ℕ)) (l : List ℕ) → All Short (ls ++ (l ∷ [])) → length ls ≤ 100 → is_text (join_lines (ls ++ (l ∷ []))) ≡ true
is_text_lem ls l all few =
    let t = join_lines (ls ++ (l ∷ [])) in
    let u = join_lines ls ++ l in
    let end : t ≡ u ++ (10 ∷ []) = last_end ls l in
    let long : length t ≡ length u + 1 = ap length end ∙ length_push u 10 in
    let most = length_lines (ls ++ (l ∷ [])) all in
    let count = length_push ls l in
    yes (length t) (get_or t (length t - 1) 0) (all_text t) (omega arith) (omega arith)
    (ap (λ x. get_or x (length x - 1) 0) end ∙ last_byte u) (all_text_lines (ls ++ (l ∷ [])) all)
  where
    yes : (n last : ℕ) (b : Bool) → 0 < n → n ≤ 4096 → last ≡ 10 → b ≡ true → (ltb 0 n && (leb n 4096 && (eqb last 10 && b))) ≡ true
    yes n last b some few end all = grind (arith, nat_tests)

-- a text is cut into the lines that make it, and nothing is left
split_ended : (u : List ℕ) → split (u ++ (10 ∷ [])) ≡ split u ++ ([] ∷ [])
split_ended [] = refl
split_ended (b ∷ u) = by (eqb b 10) (split_ended u)
  where
    by : (t : Bool) → split (u ++ (10 ∷ [])) ≡ split u ++ ([] ∷ []) → cond t ([] ∷ split (u ++ (10 ∷ []))) (with_byte_before b (split (u ++ (10 ∷ [])))) ≡ cond t ([] ∷ split u) (with_byte_before b (split u)) ++ ([] ∷ [])
    by true more = ap (λ x. [] ∷ x) more
    by false more =
        let p = some_part u in
        ap (with_byte_before b) more ∙ ap (λ x. with_byte_before b (x ++ ([] ∷ []))) p.2 ∙ ap (λ x. with_byte_before b x ++ ([] ∷ [])) (sym p.2)

join_split : (u : List ℕ) → join_lines (split u) ≡ u ++ (10 ∷ [])
join_split [] = refl
join_split (b ∷ u) = by (eqb b 10) (eqb-true b 10) (join_split u)
  where
    by : (t : Bool) → (t ≡ true → b ≡ 10) → join_lines (split u) ≡ u ++ (10 ∷ []) → join_lines (cond t ([] ∷ split u) (with_byte_before b (split u))) ≡ b ∷ (u ++ (10 ∷ []))
    by true end more = ap (λ x. 10 ∷ x) more ∙ ap (λ x. x ∷ (u ++ (10 ∷ []))) (sym (end refl))
    by false end more =
        let p = some_part u in
        ap (λ x. join_lines (with_byte_before b x)) p.2 ∙ ap (λ x. b ∷ join_lines x) (sym p.2) ∙ ap (λ x. b ∷ x) more

pub record Cut (t : List ℕ) (ls : List (List ℕ)) : Type 0 where
  pub parts : split t ≡ ls ++ ([] ∷ [])
  pub whole : t ≡ join_lines ls

pub text_cut : (t : List ℕ) → is_text t ≡ true → (ls : List (List ℕ)) × Cut t ls
text_cut t is =
    let k = length t - 1 in
    let u = take k t in
    let some = and_parts (ltb 0 (length t)) _ is in
    let size = and_parts (leb (length t) 4096) _ some.1 in
    let end = and_parts (eqb (get_or t k 0) 10) (all_text t) size.1 in
    let long : 0 < length t = ltb-true 0 (length t) some.0 in
    let last : drop k t ≡ 10 ∷ [] =
    drop_more t k 0 (omega arith) ∙ ap (λ b. b ∷ drop (k + 1) t) (eqb-true _ 10 end.0) ∙ ap (λ x. 10 ∷ x) (drop_all (k + 1) t (omega arith)) in
    let ended : t ≡ u ++ (10 ∷ []) = sym (take-append-drop k t) ∙ ap (λ x. u ++ x) last in
    (split u, record { parts = ap split ended ∙ split_ended u; whole = ended ∙ sym (join_split u) })
