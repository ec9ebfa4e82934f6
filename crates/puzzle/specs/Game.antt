-- A game: positions, a start, numbered moves, and which positions are finished. Assumes nothing.
use Rattle.std.specs.Prelude.{◌≡◌, ℕ, ◌<◌, Bool, true, false, List, [], ◌∷◌, length, slice_get, Some, None, Option}

-- nothing stands twice in a list
abbrev pub Distinct : {P : Type 0} → List P → Type 0
Distinct {P} ps = (i j : ℕ) (p : P) → slice_get ps i ≡ Some p → slice_get ps j ≡ Some p → i ≡ j

-- the moves are numbered 0 to count - 1; on a position each is closed, None, or leads to one position
pub record Game (P : Type 0) : Type 0 where
  pub start : P
  pub count : ℕ
  pub move : P → ℕ → Option P
  pub finished : P → Bool

module _ {P : Type 0} (g : Game P) where
  -- a list of moves, each open where it is played, that leads from one position to another
  pub data Plays : P → List ℕ → P → Type 0 where
    here : {p : P} → Plays p [] p
    then : {p q r : P} {m : ℕ} {ms : List ℕ} → m < g.count → g.move p m ≡ Some q → Plays q ms r → Plays p (m ∷ ms) r

  -- what lists of legal moves lead to from the start
  abbrev pub Reached : P → Type 0
  Reached p = (ms : List ℕ) × Plays g.start ms p

  -- moves from a position to a finished one
  pub record Finishes (p : P) (moves : List ℕ) : Type 0 where
    pub last : P
    pub plays : Plays p moves last
    pub finished : g.finished last ≡ true

  -- so many positions can be reached, all different
  pub record CanReach (n : ℕ) : Type 0 where
    pub positions : List P
    pub many : length positions ≡ n
    pub distinct : Distinct positions
    pub reached : (i : ℕ) (p : P) → slice_get positions i ≡ Some p → Reached p

  -- legal moves that lead to a finished position and pass none before
  pub data Solves : P → List ℕ → Type 0 where
    solved : {p : P} → g.finished p ≡ true → Solves p []
    step : {p q : P} {m : ℕ} {ms : List ℕ} → g.finished p ≡ false → m < g.count → g.move p m ≡ Some q → Solves q ms → Solves p (m ∷ ms)

-- what `play` answers of a move, and what it makes of the position that it was lent
abbrev pub Played : {P : Type 0} → Option P → Bool → P → P → Type 0
Played (Some q) r old new = (r ≡ true) × (new ≡ q)
Played None r old new = (r ≡ false) × (new ≡ old)
