-- What a puzzle means to a search, and the law that it has to keep. Assumes nothing.
use Rattle.std.specs.Prelude.{◌≡◌, ℕ, ◌≤◌, ◌↔◌, Bool, true, List, length, Some, None, Option}
use Rattle.puzzle.specs.Game.{Game, Reached, Finishes, Played}

pub record Meaning (P : Type 0) : Type 0 where
  pub game : Game P
  -- how many moves are left to a finished position at least; none where the position is dead
  pub lower_bound : P → Option ℕ
  -- the number by which a position is looked up
  pub key : P → ℕ
  pub same : P → P → Bool

module _ {P : Type 0} (m : Meaning P) where
  -- a fact of a position, where it can be reached
  abbrev pub IfReached : P → Type 0 → Type 0
  IfReached p Fact = Reached m.game p → Fact

  -- playing a move answers what the game says, from a position that can be reached and that was prepared
  abbrev pub PlaysPrepared : P → Type 0 → ℕ → Bool → P → P → Type 0
  PlaysPrepared p Prepared number answer old new = Reached m.game p → Prepared → Played (m.game.move p number) answer old new

  -- comparing two positions that can be reached answers whether they are the same
  abbrev pub Compares : P → P → Bool → Type 0
  Compares p q answer = Reached m.game p → Reached m.game q → answer ≡ m.same p q

  -- the law of a puzzle; it concerns positions that can be reached
  pub record Lawful : Type 0 where
    pub some : 1 ≤ m.game.count
    pub few : m.game.count ≤ 256
    -- a bound that is a number is at most the length of every way to the finish: it is admissible
    pub admissible : (p : P) → Reached m.game p → (n : ℕ) → m.lower_bound p ≡ Some n → (moves : List ℕ) → Finishes m.game p moves → n ≤ length moves
    -- from a dead position there is no such way
    pub dead : (p : P) → Reached m.game p → m.lower_bound p ≡ None → (moves : List ℕ) → Finishes m.game p moves → ⊥
    pub alike : (p q : P) → Reached m.game p → Reached m.game q → (m.same p q ≡ true) ↔ (p ≡ q)
