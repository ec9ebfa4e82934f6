-- The numbers of a row are read from the text that spells them, and from no other. Assumes nothing.
use Rattle.std.proofs.Common.{◌≡◌, ℕ, zero, suc, ◌<◌, ◌≤◌, Bool, true, false, cond, eqb, ltb, List, [], ◌∷◌, ◌++◌, length, Some, None, decimal, Option, refl, ap, ◌∙◌, subst, arith}
use Rattle.std.specs.List.{All}
use Rattle.std.proofs.lemmas.List.{nil_from_length}
use Rattle.std.proofs.lemmas.List.Elements.{All-nil, All-cons, All-head, All-tail}
use Rattle.std.proofs.lemmas.Bool.{cond-true, lt-ltb, ltb-true, eqb-true}
use Rattle.text.specs.Forms.{◌then◌, number_in}
use Rattle.text.proofs.Cases.{never}
use Rattle.text.proofs.Runs.{Stops}
use Rattle.text.proofs.FormWords.{first_step, number_only_lem, number_reads}
use Rattle.tiles.specs.LevelText.Reading.{numbers_in}
use Rattle.tiles.specs.LevelText.Writing.{spaced_numbers}

-- where a test lets an answer through, it holds
tested : {A : Type 0} (t : Bool) (o : Option A) (a : A) → cond t o None ≡ Some a → (t ≡ true) × (o ≡ Some a)
tested true o a e = (refl, e)
tested false o a e = absurd (never a e)

-- the k numbers ns below a limit, as a row spells them
pub record Spelled (limit k : ℕ) (l ns : List ℕ) : Type 0 where
  pub text : l ≡ spaced_numbers ns
  pub size : length ns ≡ k
  pub below : All (λ n. n < limit) ns

spelled_more : (limit k n : ℕ) (l rest ns : List ℕ) → number_in l ≡ Some (n, rest) → n < limit → Spelled limit k rest ns → Spelled limit (suc k) l (n ∷ ns)
spelled_more limit k n l rest ns number small s = record {
  text = (number_only_lem l n rest number).0 ∙ ap (λ x. 32 ∷ (decimal n ++ x)) s.text;
  size = ap suc s.size;
  below = All-cons (λ m. m < limit) n ns small s.below;
}

pub numbers_only : (limit k : ℕ) (l ns : List ℕ) → numbers_in limit k l ≡ Some ns → Spelled limit k l ns
numbers_only limit zero l ns e =
    let t = tested (eqb (length l) 0) (Some []) ns e in
    let whole = t.1 in
    let same : [] ≡ ns = cc in
    let none = nil_from_length l (eqb-true _ _ t.0) in
    subst (Spelled limit zero l) same (record { text = none; size = refl; below = All-nil (λ m. m < limit) })
numbers_only limit (suc k) l ns e =
    let first = first_step (number_in l) _ ns e in
    let n = first.0.0 in
    let rest = first.0.1 in
    let t = tested (ltb n limit) _ ns first.2 in
    let others = first_step (numbers_in limit k rest) (λ ms. Some (n ∷ ms)) ns t.1 in
    let whole = others.2 in
    let same : n ∷ others.0 ≡ ns = cc in
    subst (Spelled limit (suc k) l) same
    (spelled_more limit k n l rest others.0 first.1 (ltb-true _ _ t.0) (numbers_only limit k rest others.0 others.1))

-- a number ends where the next begins, and at the end
stops : (ns : List ℕ) → Stops (spaced_numbers ns)
stops [] = refl
stops (n ∷ ns) = refl

pub numbers_all : (limit : ℕ) (ns : List ℕ) → limit ≤ 16 → All (λ n. n < limit) ns → numbers_in limit (length ns) (spaced_numbers ns) ≡ Some ns
numbers_all limit [] few below = refl
numbers_all limit (n ∷ ns) few below =
    let small = All-head (λ m. m < limit) n ns below in
    ap (λ o. o then (λ x. cond (ltb x.0 limit) (numbers_in limit (length ns) x.1 then (λ ms. Some (x.0 ∷ ms))) None)) (number_reads n (omega arith) (spaced_numbers ns) (stops ns))
    ∙ cond-true (ltb n limit) _ _ (lt-ltb n limit small)
    ∙ ap (λ o. o then (λ ms. Some (n ∷ ms))) (numbers_all limit ns few (All-tail (λ m. m < limit) n ns below))
