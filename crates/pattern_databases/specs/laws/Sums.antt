-- Sums of bytes and the least of them, where one byte falls by at most one. Assumes nothing.
use Rattle.std.proofs.Common.{◌≡◌, ℕ, zero, suc, ◌+◌, ◌<◌, ◌≤◌, eqb, cond, Bool, true, false, map, Some, None, Option, option_map, min, sym, refl, ap, ◌∙◌, subst, ⊎_elim, arith}
use Rattle.std.specs.List.{range_with_len}
use Rattle.std.proofs.lemmas.Bool.{cases_eq, eqb-true, eq-eqb}
use Rattle.pattern_databases.specs.Meaning.{with_byte, sum_of, lesser, least_of}

-- a number that one move lowers by at most one; where there is none before the move, there is none after it
abbrev pub Slow : Option ℕ → Option ℕ → Type 0
Slow (Some a) (Some b) = a ≤ b + 1
Slow (Some a) None = Unit {0}
Slow None (Some b) = ⊥
Slow None None = Unit {0}

slow_same : (o : Option ℕ) → Slow o o
slow_same (Some a) = omega arith
slow_same None = tt

-- the same of a byte, of which 255 stands for none
abbrev pub SlowByte : ℕ → ℕ → Type 0
SlowByte a b = (a ≤ b + 1) × (a ≡ 255 → b ≡ 255)

-- the lesser of two
slow_lesser : (a b c d : Option ℕ) → Slow a b → Slow c d → Slow (lesser a c) (lesser b d)
slow_lesser (Some a) (Some b) (Some c) (Some d) one other = omega arith
slow_lesser (Some a) (Some b) (Some c) None one other = omega arith
slow_lesser (Some a) None (Some c) (Some d) one other = omega arith
slow_lesser (Some a) None (Some c) None one other = tt
slow_lesser (Some a) (Some b) None None one other = one
slow_lesser (Some a) None None None one other = tt
slow_lesser None None c d one other = other
slow_lesser None (Some b) c d one other = absurd one
slow_lesser a b None (Some d) one other = absurd other

-- the least of n
pub slow_least : (f g : ℕ → Option ℕ) (a n : ℕ) → ((k : ℕ) → k < a + n → Slow (f k) (g k))
    → Slow (least_of (map f (range_with_len a n))) (least_of (map g (range_with_len a n)))
slow_least f g a zero slow = tt
slow_least f g a (suc n) slow =
    slow_lesser (f a) (g a) _ _ (slow a (omega arith)) (slow_least f g (a + 1) n (λ k h. slow k (omega arith)))

-- a sum with one byte more, where that byte is slow and the sum stays
slow_byte : (a b : ℕ) (o : Option ℕ) → SlowByte a b → Slow (with_byte a o) (with_byte b o)
slow_byte a b o slow = by (eqb a 255) (eqb b 255) o refl refl
  where
    by : (s t : Bool) (o : Option ℕ) → eqb a 255 ≡ s → eqb b 255 ≡ t
        → Slow (cond s None (option_map (λ n. a + n) o)) (cond t None (option_map (λ n. b + n) o))
    by true true o is also = tt
    by true false o is also = absurd (cc (eq-eqb b 255 (slow.1 (eqb-true a 255 is))))
    by false true (Some n) is also = tt
    by false true None is also = tt
    by false false (Some n) is also = omega (arith, slow.0)
    by false false None is also = tt

-- and where the byte stays and the sum is slow
slow_rest : (a : ℕ) (o p : Option ℕ) → Slow o p → Slow (with_byte a o) (with_byte a p)
slow_rest a o p slow = by (eqb a 255) o p slow
  where
    by : (s : Bool) (o p : Option ℕ) → Slow o p
        → Slow (cond s None (option_map (λ n. a + n) o)) (cond s None (option_map (λ n. a + n) p))
    by true o p slow = tt
    by false (Some m) (Some n) slow = omega arith
    by false (Some m) None slow = tt
    by false None (Some n) slow = absurd slow
    by false None None slow = tt

-- what is the same at each number
map_same : {X : Type 0} (f g : ℕ → X) (a n : ℕ) → ((k : ℕ) → a ≤ k → k < a + n → f k ≡ g k)
    → map f (range_with_len a n) ≡ map g (range_with_len a n)
map_same f g a zero same = refl
map_same f g a (suc n) same =
    let rest = map_same f g (a + 1) n (λ k h below. same k (omega arith) (omega arith)) in
    let here = same a (omega arith) (omega arith) in
    cc

-- a sum of n bytes, all the same but for one that is slow
pub slow_sum : (f g : ℕ → ℕ) (j : ℕ) → SlowByte (f j) (g j)
    → (a n : ℕ) → ((k : ℕ) → k < a + n → (k ≡ j → ⊥) → f k ≡ g k)
    → Slow (sum_of (map f (range_with_len a n))) (sum_of (map g (range_with_len a n)))
slow_sum f g j slow a zero same = omega arith
slow_sum f g j slow a (suc n) same =
    ⊎_elim
    (λ here.
    let rest = map_same f g (a + 1) n (λ k above below. same k (omega arith) (λ e. absurd (omega arith))) in
    let byte = subst (λ k. SlowByte (f k) (g k)) (sym here) slow in
    subst (λ o. Slow (sum_of (map f (range_with_len a (suc n)))) (with_byte (g a) o)) (ap sum_of rest) (slow_byte (f a) (g a) _ byte))
    (λ other.
    let rest = slow_sum f g j slow (a + 1) n (λ k below apart. same k (omega arith) apart) in
    subst (λ b. Slow (sum_of (map f (range_with_len a (suc n)))) (with_byte b (sum_of (map g (range_with_len (a + 1) n)))))
    (same a (omega arith) other) (slow_rest (f a) _ _ rest))
    (cases_eq a j)

-- what is slow, where it is known whether there are numbers
pub slow_numbers : (o p : Option ℕ) (a b : ℕ) → o ≡ Some a → p ≡ Some b → Slow o p → a ≤ b + 1
slow_numbers (Some m) (Some n) a b is also slow =
    let one : m ≡ a = cc in
    let other : n ≡ b = cc in
    omega arith
slow_numbers (Some m) None a b is also slow = absurd (cc)
slow_numbers None p a b is also slow = absurd (cc)

pub slow_none : (o p : Option ℕ) → o ≡ None → Slow o p → p ≡ None
slow_none (Some m) p is slow = absurd (cc)
slow_none None (Some n) is slow = absurd slow
slow_none None None is slow = refl

-- zeroes sum up to 0
pub sum_zeroes : (f : ℕ → ℕ) (a n : ℕ) → ((k : ℕ) → k < a + n → f k ≡ 0) → sum_of (map f (range_with_len a n)) ≡ Some 0
sum_zeroes f a zero all = refl
sum_zeroes f a (suc n) all =
    ap (λ b. with_byte b (sum_of (map f (range_with_len (a + 1) n)))) (all a (omega arith))
    ∙ ap (with_byte 0) (sum_zeroes f (a + 1) n (λ k h. all k (omega arith)))

-- nothing is less than 0
lesser_zero : (o : Option ℕ) → (lesser (Some 0) o ≡ Some 0) × (lesser o (Some 0) ≡ Some 0)
lesser_zero (Some n) =
    let left : min 0 n ≡ 0 = omega arith in
    let right : min n 0 ≡ 0 = omega arith in
    (ap Some left, ap Some right)
lesser_zero None = (refl, refl)

pub least_zero : (f : ℕ → Option ℕ) (k : ℕ) → f k ≡ Some 0
    → (a n : ℕ) → a ≤ k → k < a + n → least_of (map f (range_with_len a n)) ≡ Some 0
least_zero f k is a zero from below = absurd (omega arith)
least_zero f k is a (suc n) from below =
    ⊎_elim
    (λ here. ap (λ o. lesser o (least_of (map f (range_with_len (a + 1) n)))) (ap f here ∙ is) ∙ (lesser_zero _).0)
    (λ other. ap (lesser (f a)) (least_zero f k is (a + 1) n (omega arith) (omega arith)) ∙ (lesser_zero (f a)).1)
    (cases_eq a k)
