-- One more move, and what it leads to. Assumes nothing.
use Rattle.std.proofs.Common.{◌≡◌, ℕ, ◌<◌, Bool, true, List, [], ◌∷◌, ◌++◌, Some, None, Option, sym, ap, ◌∙◌}
use Rattle.std.proofs.lemmas.Bool.{true≢false}
use Rattle.puzzle.specs.Game.{Game, Plays, Reached, Played, here, then}

module _ {P : Type 0} (g : Game P) where
  -- one move more
  pub plays_more : (p q r : P) (moves : List ℕ) (number : ℕ) → Plays g p moves q → number < g.count → g.move q number ≡ Some r → Plays g p (moves ++ number ∷ []) r
  plays_more p q r [] number here below leads = then below leads here
  plays_more p q r (n ∷ ns) number (then {q = s} b l more) below leads = then b l (plays_more s q r ns number more below leads)

  -- what an open move leads to from a reached position is reached
  pub reached_more : (p q : P) (number : ℕ) → Reached g p → number < g.count → g.move p number ≡ Some q → Reached g q
  reached_more p q number way below leads = (way.0 ++ number ∷ [], plays_more g.start p q way.0 number way.1 below leads)

-- where `play` says that a move is open, it leads to what was filled in
pub played_open : {P : Type 0} (o : Option P) {b : Bool} (old new : P) → b ≡ true → Played o b old new → o ≡ Some new
played_open (Some q) old new e h = ap Some (sym h.1)
played_open None old new e h = absurd (true≢false (sym e ∙ h.0))
