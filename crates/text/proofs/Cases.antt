-- Answers that are told apart, and the parts of those that are equal. Assumes nothing.
use Rattle.std.proofs.Common.{◌≡◌, ℕ, Some, None, Ok, Err, Option, ap, arith}

pub never : {A : Type 0} (a : A) → None ≡ Some a → ⊥
never a e = let z : ◌≡◌ {A = ℕ} 0 1 = cc in omega arith

pub clash : {A B : Type 0} (a : A) (b : B) → Err b ≡ Ok a → ⊥
clash a b e = let z : ◌≡◌ {A = ℕ} 0 1 = cc in omega arith

pub parts : {A B : Type 0} (a c : A) (b d : B) → ◌≡◌ {A = Option (A × B)} (Some (a, b)) (Some (c, d)) → (a ≡ c) × (b ≡ d)
parts {A} {B} a c b d e = let p : ◌≡◌ {A = A × B} (a, b) (c, d) = cc in (ap (λ x. x.0) p, ap (λ x. x.1) p)
