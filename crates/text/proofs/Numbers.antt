-- What `decimal` writes is read again, and nothing else is read. Assumes nothing.
use Rattle.std.proofs.Common.{◌≡◌, ℕ, zero, suc, ◌+◌, ◌-◌, ◌*◌, ◌/◌, ◌%◌, ◌^◌, ◌<◌, Bool, true, ◌&&◌, List, [], ◌∷◌, ◌++◌, length, get_or, Some, None, decimal, Option, sym, refl, ap, ◌∙◌, ⊎_elim, append_assoc, append-nil, arith, rules}
use Rattle.std.specs.Char.{is_ascii_digit}
use Rattle.std.specs.Str.{all_ascii_digits}
use Rattle.std.proofs.lemmas.Fmt.{decimal_by_steps, first_decimal, decimal_nonempty, decimal_digit, decimal-digits_value}
use Rattle.std.proofs.lemmas.Str.Parse.{IsNumeralModel, numerals_by_fold}
use Rattle.std.proofs.lemmas.Bool.{cases_eq}
use Rattle.std.proofs.lemmas.Bool.Decides.{nat_tests}
use Rattle.text.specs.Numbers.{digit, with_digit, digits_after, read_number, NumbersReadBack}

abbrev goes : List ℕ → Option ℕ → Option ℕ
goes rest o = elim o [ Some m ↦ digits_after m rest | None ↦ None ]

-- one digit more
on : (n d : ℕ) → n < 1000000 → d < 10 → with_digit n (digit (48 + d)) ≡ Some (n * 10 + d)
on n d small one = grind (arith, nat_tests)

digits_back : (n : ℕ) → n < 10000000 → (rest : List ℕ) → digits_after 0 (decimal n ++ rest) ≡ digits_after n rest
digits_back n small =
    decimal_by_steps
    (λ m ds. m < 10000000 → (rest : List ℕ) → digits_after 0 (ds ++ rest) ≡ digits_after m rest)
    (λ m one _ rest. let same : 0 * 10 + m ≡ m = omega arith in ap (goes rest) (on 0 m (omega arith) one) ∙ ap (λ k. digits_after k rest) same)
    (λ m ds big before less rest.
    let same : m / 10 * 10 + m % 10 ≡ m = omega arith in
    ap (digits_after 0) (append_assoc ds ((48 + m % 10) ∷ []) rest)
    ∙ before (omega arith) ((48 + m % 10) ∷ rest)
    ∙ ap (goes rest) (on (m / 10) (m % 10) (omega arith) (omega arith))
    ∙ ap (λ k. digits_after k rest) same)
    n (omega arith) small

read_plain : (t : List ℕ) → 0 < length t → (get_or t 0 0 ≡ 48 → ⊥) → digits_after 0 t ≡ read_number t
read_plain t some plain = grind (arith, nat_tests)

pub reads_back : (n : ℕ) → n < 10000000 → read_number (decimal n) ≡ Some n
reads_back zero small = ap read_number (decimal_digit 0 (omega arith))
reads_back (suc n) small =
    let m = suc n in
    let fits : m < 2 ^ 64 = omega arith in
    sym (read_plain (decimal m) (decimal_nonempty m fits) (λ e. omega (arith, first_decimal m (omega arith) fits)))
    ∙ ap (digits_after 0) (sym (append-nil (decimal m)))
    ∙ digits_back m small []

-- the other way: what is read consists of digits, and is their value
abbrev read_on : ℕ → List ℕ → ℕ
read_on n [] = n
read_on n (c ∷ cs) = read_on (n * 10 + (c - 48)) cs

pub own : IsNumeralModel (λ ds. all_ascii_digits ds ≡ true) (read_on 0)
own = numerals_by_fold _ (search rules) read_on (search rules)

record Read (m n : ℕ) (t : List ℕ) : Type 0 where
  digits : all_ascii_digits t ≡ true
  number : read_on m t ≡ n
  small : n < 10000000

one_digit : (m c k : ℕ) → with_digit m (digit c) ≡ Some k → (is_ascii_digit c ≡ true) × (m * 10 + (c - 48) ≡ k) × (k < 10000000)
one_digit m c k e = (grind (arith, nat_tests), grind (arith, nat_tests), grind (arith, nat_tests))

both : (a b : Bool) → a ≡ true → b ≡ true → a && b ≡ true
both a b p q = grind (arith, nat_tests)

by : (m n c : ℕ) (cs : List ℕ) → ((k : ℕ) → k < 10000000 → digits_after k cs ≡ Some n → Read k n cs) → (o : Option ℕ) → with_digit m (digit c) ≡ o → goes cs o ≡ Some n → Read m n (c ∷ cs)
by m n c cs rest (Some k) q e =
    let h = one_digit m c k q in
    let r = rest k h.2 e in
    record { digits = both _ _ h.0 r.digits; number = ap (λ j. read_on j cs) h.1 ∙ r.number; small = r.small }
by m n c cs rest None q e = absurd (let z : ◌≡◌ {A = ℕ} 0 1 = cc in omega arith)

was : (m n : ℕ) (t : List ℕ) → m < 10000000 → digits_after m t ≡ Some n → Read m n t
was m n [] h e = let same : m ≡ n = cc in record { digits = refl; number = same; small = omega arith }
was m n (c ∷ cs) h e = by m n c cs (λ k. was k n cs) (with_digit m (digit c)) refl e

-- what is read is a lone zero, or begins with another digit
pub some : (t : List ℕ) (n : ℕ) → read_number t ≡ Some n → 0 < length t
some t n e = grind (arith, nat_tests)

lone : (t : List ℕ) (n : ℕ) → read_number t ≡ Some n → get_or t 0 0 ≡ 48 → (length t ≡ 1) × (n ≡ 0)
lone t n e z = (grind (arith, nat_tests), grind (arith, nat_tests))

plainly : (t : List ℕ) (n : ℕ) → read_number t ≡ Some n → (get_or t 0 0 ≡ 48 → ⊥) → digits_after 0 t ≡ Some n
plainly t n e z = grind (arith, nat_tests)

zero_text : (t : List ℕ) → length t ≡ 1 → get_or t 0 0 ≡ 48 → 48 ∷ [] ≡ t
zero_text [] h z = absurd (omega arith)
zero_text (c ∷ []) h z = ap (λ b. b ∷ []) (sym z)
zero_text (c ∷ d ∷ t) h z = absurd (omega arith)

pub only_that : (t : List ℕ) (n : ℕ) → read_number t ≡ Some n → (decimal n ≡ t) × (n < 10000000)
only_that t n e =
    ⊎_elim
    (λ z. let h = lone t n e z in (ap decimal h.1 ∙ decimal_digit 0 (omega arith) ∙ zero_text t h.0 z, omega arith))
    (λ z.
    let r = was 0 n t (omega arith) (plainly t n e z) in
    let fits : read_on 0 t < 2 ^ 64 = omega (arith, r.number, r.small) in
    (ap decimal (sym r.number) ∙ decimal-digits_value own t r.digits (some t n e) (λ q. absurd (z q)) fits, r.small))
    (cases_eq (get_or t 0 0) 48)

pub numbers_read_back : NumbersReadBack
numbers_read_back = record { all = reads_back; only = only_that }
