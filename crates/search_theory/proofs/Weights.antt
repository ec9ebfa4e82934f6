-- How many steps a list of nodes still allows. Assumes nothing.
use Rattle.std.proofs.Common.{◌≡◌, ℕ, zero, suc, ◌+◌, ◌≤◌, true, cond, List, [], ◌∷◌, ◌++◌, slice_get, slice_set, Some, ap, arith}
use Rattle.std.proofs.lemmas.Option.{same_Some, none-some}
use Rattle.search_theory.specs.Nodes.{Node}

-- an open node can be taken once more than a closed one; each time that it is reached with fewer moves it can be taken again
abbrev pub weight : {P : Type 0} → Node P → ℕ
weight n = n.depth + cond n.is_open 1 0

abbrev pub weigh : {P : Type 0} → List (Node P) → ℕ
weigh [] = 0
weigh (n ∷ ns) = weight n + weigh ns

module _ {P : Type 0} where
  pub weigh_push : (ns : List (Node P)) (y : Node P) → weigh (ns ++ (y ∷ [])) ≡ weigh ns + weight y
  weigh_push [] y = omega arith
  weigh_push (n ∷ ns) y = let more = weigh_push ns y in omega arith

  pub weigh_set : (ns : List (Node P)) (i : ℕ) (x y : Node P) → slice_get ns i ≡ Some x → weigh (slice_set ns i y) + weight x ≡ weigh ns + weight y
  weigh_set [] i x y e = absurd (none-some x e)
  weigh_set (n ∷ ns) zero x y e = let same : weight n ≡ weight x = ap weight (same_Some n x e) in omega arith
  weigh_set (n ∷ ns) (suc i) x y e = let more = weigh_set ns i x y e in omega arith

  pub weigh_at : (ns : List (Node P)) (i : ℕ) (x : Node P) → slice_get ns i ≡ Some x → weight x ≤ weigh ns
  weigh_at [] i x e = absurd (none-some x e)
  weigh_at (n ∷ ns) zero x e = let same : weight n ≡ weight x = ap weight (same_Some n x e) in omega arith
  weigh_at (n ∷ ns) (suc i) x e = let more = weigh_at ns i x e in omega arith

  pub open_weight : (x : Node P) → x.is_open ≡ true → weight x ≡ x.depth + 1
  open_weight x is_open = ap (λ b. x.depth + cond b 1 0) is_open

  -- an open node weighs something
  pub open_weighs : (ns : List (Node P)) (i : ℕ) (x : Node P) → slice_get ns i ≡ Some x → x.is_open ≡ true → 1 ≤ weigh ns
  open_weighs ns i x at is_open = let all = weigh_at ns i x at in let mine = open_weight x is_open in omega arith
