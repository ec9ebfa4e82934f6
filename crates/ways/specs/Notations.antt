-- How the moves of a game are written. Assumes nothing.
use Rattle.std.specs.Prelude.{◌≡◌, ℕ, ◌<◌, ◌≤◌, List, length, Some, None, Ok, Err, Option, Result}
use Rattle.refusals.specs.declared.Fault.{Fault}
use Rattle.refusals.specs.Refusals.{fault}
use Rattle.puzzle.specs.Game.{Game, Reached}
use Rattle.puzzle.specs.Meaning.{Meaning}
use Rattle.text.specs.Lines.{OneLine}
use Rattle.text.specs.Forms.{closing}
use Rattle.ways.specs.declared.notation.IllegalMove.{IllegalMove}
use Rattle.ways.specs.declared.notation.IllegalMove.TheVariants as illegal

-- the reason under which the judge refuses a move that is not legal
abbrev pub fault_of : IllegalMove → Fault
fault_of illegal.NothingThere = fault 42
fault_of illegal.Closed = fault 43

-- no line of an open move has more bytes
abbrev pub longest_line : ℕ
longest_line = 31

-- P are the positions, W what a move line says
pub record Spelling (P W : Type 0) : Type 0 where
  -- what a line says, if it is a move line in form
  pub reading : List ℕ → Option W
  -- where a written move leads from a position, or why it is no legal move there
  pub outcome : P → W → Result P IllegalMove
  -- what is written of a move number at a position, open or closed: its line, or nothing where it has none
  pub line : P → ℕ → List ℕ

-- a move by its number, where it is written as one: closed, or where it leads
abbrev pub outcome_of : {P : Type 0} → Option P → Result P IllegalMove
outcome_of (Some q) = Ok q
outcome_of None = Err illegal.Closed

-- following a written move: what is answered, and what is made of the position that was lent
abbrev pub FollowsTo : {P : Type 0} → Result P IllegalMove → Result (Unit {0}) IllegalMove → P → P → Type 0
FollowsTo (Ok q) answer old new = (answer ≡ Ok tt) × (new ≡ q)
FollowsTo (Err e) answer old new = (answer ≡ Err e) × (new ≡ old)

-- the same from a position that can be reached
abbrev pub FollowsIn : {P W : Type 0} → Meaning P → Spelling P W → P → W → Result (Unit {0}) IllegalMove → P → P
    → Type 0
FollowsIn m k p w answer old new = Reached m.game p → FollowsTo (k.outcome p w) answer old new

module _ {P W : Type 0} (g : Game P) (k : Spelling P W) where
  -- what the line of a move says that leads to q: it is one line, in form, and leads there
  pub record Spells (p : P) (m : ℕ) (q : P) : Type 0 where
    pub said : W
    pub form : k.reading (k.line p m) ≡ Some said
    pub leads : k.outcome p said ≡ Ok q
    pub whole : OneLine (k.line p m)

  -- an open move of the game that leads from one position to another
  pub record Legal (p q : P) : Type 0 where
    pub number : ℕ
    pub below : number < g.count
    pub leads : g.move p number ≡ Some q

  pub record Lawful : Type 0 where
    -- the line of an open move is in form, and leads where the move leads
    pub spells : (p q : P) (m : ℕ) → Reached g p → m < g.count → g.move p m ≡ Some q → Spells p m q
    -- and is no longer than that
    pub short : (p q : P) (m : ℕ) → Reached g p → m < g.count → g.move p m ≡ Some q → length (k.line p m) ≤ longest_line
    -- a written move that can be followed is a legal move
    pub legal : (p q : P) (w : W) → k.outcome p w ≡ Ok q → Legal p q
    -- a closing bracket is no move line
    pub unclosed : k.reading closing ≡ None
