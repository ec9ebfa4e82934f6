-- The positions that a search has stored, and which of them is taken next. Assumes nothing.
use Rattle.std.specs.Prelude.{◌≡◌, ℕ, ◌+◌, ◌≤◌, Bool, true, false, List, slice_get, Some}

-- a stored position
pub record Node (P : Type 0) : Type 0 where
  pub position : P
  -- the moves made to it
  pub depth : ℕ
  -- the place of the node that it was last reached from, and by which move
  pub parent : ℕ
  pub move : ℕ
  -- its lower bound, and the number by which it is looked up
  pub floor : ℕ
  pub key : ℕ
  pub is_open : Bool

abbrev pub closed_node : {P : Type 0} → Node P → Node P
closed_node n = record n { is_open = false }

-- a stored node that was reached with fewer moves takes the smaller number, and is open again
abbrev pub nearer_node : {P : Type 0} → Node P → ℕ → ℕ → ℕ → Node P
nearer_node n depth parent move = record n { depth = depth; parent = parent; move = move; is_open = true }

-- the moves made plus the lower bound
abbrev pub sum : {P : Type 0} → Node P → ℕ
sum n = n.depth + n.floor

-- Of two open nodes the one with the lesser sum is taken first; of equals the one with more moves made, then the one
-- stored earlier.
pub record Before {P : Type 0} (a : Node P) (i : ℕ) (b : Node P) (j : ℕ) : Type 0 where
  pub lesser : sum a ≤ sum b
  pub deeper : sum a ≡ sum b → b.depth ≤ a.depth
  pub earlier : sum a ≡ sum b → a.depth ≡ b.depth → i ≤ j

-- the node that a step takes, and its place
pub record IsTaken {P : Type 0} (nodes : List (Node P)) (place : ℕ) (node : Node P) : Type 0 where
  pub there : slice_get nodes place ≡ Some node
  pub is_open : node.is_open ≡ true
  pub first : (j : ℕ) (other : Node P) → slice_get nodes j ≡ Some other → other.is_open ≡ true → Before node place other j

-- no node is open
abbrev pub NoneOpen : {P : Type 0} → List (Node P) → Type 0
NoneOpen {P} nodes = (j : ℕ) (node : Node P) → slice_get nodes j ≡ Some node → node.is_open ≡ false

-- no node holds this position
abbrev pub IsNew : {P : Type 0} → List (Node P) → P → Type 0
IsNew {P} nodes p = (j : ℕ) (node : Node P) → slice_get nodes j ≡ Some node → node.position ≡ p → ⊥
