-- Puzzles whose bound is consistent: one move lowers it by at most one. Assumes nothing.
use Rattle.std.specs.Prelude.{◌≡◌, ℕ, ◌+◌, ◌<◌, ◌≤◌, true, Some, None}
use Rattle.puzzle.specs.Game.{Reached}
use Rattle.puzzle.specs.Meaning.{Meaning}

module _ {P : Type 0} (m : Meaning P) where
  -- an open move of a position that can be reached
  pub record Move (p q : P) : Type 0 where
    pub reached : Reached m.game p
    pub number : ℕ
    pub below : number < m.game.count
    pub leads : m.game.move p number ≡ Some q

  pub record Consistent : Type 0 where
    -- at a finished position the bound is 0
    pub goal : (p : P) → Reached m.game p → m.game.finished p ≡ true → m.lower_bound p ≡ Some 0
    -- one move lowers the bound by at most one
    pub step : (p q : P) → Move p q → (a b : ℕ) → m.lower_bound p ≡ Some a → m.lower_bound q ≡ Some b → a ≤ b + 1
    -- from a dead position moves lead to dead ones only
    pub dead : (p q : P) → Move p q → m.lower_bound p ≡ None → m.lower_bound q ≡ None
