-- A consistent bound is at most the length of every way to the finish: it is admissible. Assumes nothing.
use Rattle.std.proofs.Common.{◌≡◌, ℕ, suc, ◌+◌, ◌≤◌, true, List, [], ◌∷◌, length, Some, None, Option, refl, ap, ◌∙◌, arith}
use Rattle.puzzle.specs.Game.{Plays, Reached, here, then, Finishes}
use Rattle.puzzle.specs.Meaning.{Meaning}
use Rattle.puzzle.specs.Consistent.{Consistent, Move}
use Rattle.puzzle.proofs.Reaching.{reached_more}

-- what a bound says of a number of moves: it is at most that number, and no dead position's
abbrev Admits : Option ℕ → ℕ → Type 0
Admits (Some n) moves = n ≤ moves
Admits None moves = ⊥

module _ {P : Type 0} (m : Meaning P) (consistent : Consistent m) where
  admits_step : (p q : P) (moves : ℕ) (a b : Option ℕ) → Move m p q → m.lower_bound p ≡ a → m.lower_bound q ≡ b → Admits b moves → Admits a (suc moves)
  admits_step p q moves (Some a) (Some b) move ea eb rest = omega (arith, consistent.step p q move a b ea eb)
  admits_step p q moves None (Some b) move ea eb rest = let dead = consistent.dead p q move ea in absurd (cc)
  admits_step p q moves a None move ea eb rest = absurd rest

  plays_admit : (p q : P) (moves : List ℕ) → Reached m.game p → Plays m.game p moves q → m.game.finished q ≡ true → Admits (m.lower_bound p) (length moves)
  plays_admit p q [] reached here finished = rw (consistent.goal p reached finished) (omega arith)
  plays_admit p q (n ∷ ns) reached (then {q = r} below leads rest) finished =
      admits_step p r (length ns) (m.lower_bound p) (m.lower_bound r)
      (record { reached = reached; number = n; below = below; leads = leads }) refl refl
      (plays_admit r q ns (reached_more m.game p r n reached below leads) rest finished)

  admits : (p : P) (moves : List ℕ) → Reached m.game p → Finishes m.game p moves → Admits (m.lower_bound p) (length moves)
  admits p moves reached way = plays_admit p way.last moves reached way.plays way.finished

  pub consistent_admissible : (p : P) → Reached m.game p → (n : ℕ) → m.lower_bound p ≡ Some n → (moves : List ℕ) → Finishes m.game p moves → n ≤ length moves
  consistent_admissible p reached n is moves way = rw is at (admits p moves reached way)

  pub consistent_dead : (p : P) → Reached m.game p → m.lower_bound p ≡ None → (moves : List ℕ) → Finishes m.game p moves → ⊥
  consistent_dead p reached is moves way = rw is at (admits p moves reached way)

-- no position is dead, and a number that one move lowers by at most one is the bound of each
module _ {P : Type 0} (m : Meaning P) (far : P → ℕ) (is : (p : P) → m.lower_bound p ≡ Some (far p)) where
  pub consistent_distance : ((p : P) → m.game.finished p ≡ true → far p ≡ 0) → ((p q : P) → Move m p q → far p ≤ far q + 1) → Consistent m
  consistent_distance goal step = record {
    goal = λ p _ finished. is p ∙ ap Some (goal p finished);
    step = λ p q move a b before after.
        let one : far p ≡ a = cc (is p) in
        let other : far q ≡ b = cc (is q) in
        let less = step p q move in
        omega arith;
    dead = λ p q _ never. absurd (cc (is p));
  }
