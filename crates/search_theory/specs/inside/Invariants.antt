-- What holds of a search and of its nodes at every moment. Assumes nothing.
use Rattle.std.specs.Prelude.{◌≡◌, ℕ, ◌<◌, ◌≤◌, ◌*◌, List, [], ◌∷◌, ◌++◌, length, slice_get, Some}
use Rattle.puzzle.specs.Game.{Reached, Finishes}
use Rattle.puzzle.specs.Meaning.{Meaning}
use Rattle.search_theory.specs.declared.Verdict.TheVariants.{Running, Solved}
use Rattle.search_theory.specs.Nodes.{Node, IsTaken, NoneOpen}
use Rattle.search_theory.specs.Steps.{State}
use Rattle.search_theory.specs.Calls.{Search}

-- moves that the links of the nodes lead along to a place
pub data Leads {P : Type 0} (nodes : List (Node P)) : ℕ → List ℕ → Type 0 where
  start : {place : ℕ} {moves : List ℕ} → moves ≡ [] → Leads nodes place moves
  link : {place : ℕ} {moves : List ℕ} (node : Node P) (before : List ℕ) → slice_get nodes place ≡ Some node → Leads nodes node.parent before → moves ≡ before ++ (node.move ∷ []) → Leads nodes place moves

module _ {P : Type 0} (m : Meaning P) where
  -- each node holds a position that is reached, with its key and its bound, and fewer moves than there are nodes
  pub record NodeInvariant (nodes : List (Node P)) : Type 0 where
    pub reached : (i : ℕ) (node : Node P) → slice_get nodes i ≡ Some node → Reached m.game node.position
    pub key : (i : ℕ) (node : Node P) → slice_get nodes i ≡ Some node → node.key ≡ m.key node.position
    pub floor : (i : ℕ) (node : Node P) → slice_get nodes i ≡ Some node → m.lower_bound node.position ≡ Some node.floor
    pub depth : (i : ℕ) (node : Node P) → slice_get nodes i ≡ Some node → node.depth < length nodes

  -- the links of the node that was finished lead along n moves that finish
  pub record LinkedWay (nodes : List (Node P)) (n place : ℕ) : Type 0 where
    pub moves : List ℕ
    pub leads : Leads nodes place moves
    pub count : length moves ≡ n
    pub finish : Finishes m.game m.game.start moves

  -- what holds of an opened search all of whose calls were for this puzzle
  pub record SearchInvariant (s : Search P) (t : State P) : Type 0 where
    pub known : NodeInvariant t.nodes
    pub few : s.places ≤ 1048576
    pub room : length t.nodes ≤ s.places
    pub unended : t.verdict ≡ Running → t.steps < s.places * s.places
    -- a node is open while the search runs, and when it is solved: the finished one
    pub busy : t.verdict ≡ Running → NoneOpen t.nodes → ⊥
    pub solved_open : (n : ℕ) → t.verdict ≡ Solved n → NoneOpen t.nodes → ⊥
    pub found : (n : ℕ) → t.verdict ≡ Solved n → (place : ℕ) (node : Node P) → IsTaken t.nodes place node → LinkedWay t.nodes n place
