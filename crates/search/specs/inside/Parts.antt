-- What the parts of a step do. Assumes nothing.
use Rattle.std.specs.Prelude.{◌≡◌, ℕ, ◌+◌, ◌^◌, ◌<◌, Bool, true, false, cond, nat_lt, List, [], ◌∷◌, ◌++◌, length, slice_get, slice_set, Some, None, Option}
use Rattle.puzzle.specs.Game.{Reached}
use Rattle.puzzle.specs.Meaning.{Meaning, IfReached}
use Rattle.open_list.specs.Entries.{entry}
use Rattle.search_theory.specs.declared.Verdict.TheVariants.{Running}
use Rattle.search_theory.specs.Nodes.{Node, closed_node, NoneOpen, IsNew, nearer_node}
use Rattle.search_theory.specs.inside.Invariants.{NodeInvariant}
use Rattle.search_theory.specs.Steps.{MovePlayed, MovesPlayed, Overflows, Step, first_state}
use Rattle.search.specs.declared.search.steps.Reach.{Reach}
use Rattle.search.specs.declared.search.steps.TakenNode.{TakenNode}
use Rattle.search.specs.Contents.{Contents, node_of, nodes_of, state_of}
use Rattle.search.specs.inside.Memory.{link_of, ChangesNodesOnly}

module _ {P : Type 0} where
  -- the place of the node that holds a position, or none does
  abbrev pub Finds : List (Node P) → P → Option ℕ → Type 0
  Finds nodes p (Some i) = (node : Node P) × (slice_get nodes i ≡ Some node) × (node.position ≡ p)
  Finds nodes p None = IsNew nodes p

  -- a position that can be reached is found by its key
  abbrev pub FindsByKey : Meaning P → List (Node P) → P → ℕ → Option ℕ → Type 0
  FindsByKey m nodes p key place = NodeInvariant m nodes → Reached m.game p → key ≡ m.key p → Finds nodes p place

  -- whether a place of the table holds a position
  abbrev pub SameAt : Meaning P → List P → ℕ → P → Bool → Type 0
  SameAt m table place p is = (q : P) → slice_get table place ≡ Some q → Reached m.game q → Reached m.game p → is ≡ m.same q p

  -- an open node, by its parts
  abbrev pub open_node : P → ℕ → ℕ → Reach → Node P
  open_node p key floor reach = node_of p (entry reach.depth floor true) key (link_of reach.parent reach.number)

  -- one node more, or nothing changes
  abbrev pub Stores : Node P → Contents P → Bool → Contents P → Type 0
  Stores node old true new = (nodes_of new ≡ nodes_of old ++ (node ∷ [])) × ChangesNodesOnly old new
  Stores node old false new = new ≡ old

  -- the start comes into a table of some places that has no node yet
  abbrev pub StoresStart : Meaning P → Contents P → Contents P → Type 0
  StoresStart m old new =
      nodes_of old ≡ [] → 0 < old.open_list.capacity → old.steps ≡ 0 → state_of new ≡ first_state m (length old.table)

  -- the nodes after one of them was reached again, at some depth: with fewer moves, it takes them and is open
  abbrev pub relaxed_nodes : List (Node P) → ℕ → Option (Node P) → ℕ → ℕ → ℕ → List (Node P)
  relaxed_nodes nodes place (Some node) depth parent move = cond (nat_lt depth node.depth) (slice_set nodes place (nearer_node node depth parent move)) nodes
  relaxed_nodes nodes place None depth parent move = nodes

  abbrev pub Relaxes : ℕ → Reach → List (Node P) → List (Node P) → Type 0
  Relaxes place reach old new = new ≡ relaxed_nodes old place (slice_get old place) reach.depth reach.parent reach.number

  -- what was prepared is the taken position's
  abbrev pub IsPrepared : {R : Type 0} → Meaning P → (P → R → Type 0) → TakenNode P → R → Type 0
  IsPrepared m Prepares from prepared = IfReached m from.position (Prepares from.position prepared)

  -- a fact of the node that was taken, which stands closed at its place, with this position and depth
  abbrev pub OfTaken : Meaning P → List (Node P) → TakenNode P → (Node P → Type 0) → Type 0
  OfTaken m nodes from Fact =
      (taken : Node P) → slice_get nodes from.place ≡ Some (closed_node taken) → taken.position ≡ from.position → taken.depth ≡ from.depth → from.depth < 1048576 → NodeInvariant m nodes → Fact taken

  module _ (m : Meaning P) (capacity place : ℕ) (taken : Node P) where
    -- a move is played from a taken node, or finds no room
    abbrev pub PlaysOrOverflows : ℕ → Contents P → Bool → Contents P → Type 0
    PlaysOrOverflows number old true new = MovePlayed m capacity place taken number (nodes_of old) (nodes_of new)
    PlaysOrOverflows number old false new = Overflows m capacity place taken number (nodes_of old) × (nodes_of new ≡ nodes_of old)

    -- all moves are played, or one of them finds no room
    abbrev pub PlaysAllOrOverflows : Contents P → Bool → Contents P → Type 0
    PlaysAllOrOverflows old true new = MovesPlayed m capacity place taken (nodes_of old) m.game.count (nodes_of new)
    PlaysAllOrOverflows old false new = (number : ℕ) × (number < m.game.count) × MovesPlayed m capacity place taken (nodes_of old) number (nodes_of new) × Overflows m capacity place taken number (nodes_of new)

  module _ (m : Meaning P) where
    abbrev pub PlaysMove : TakenNode P → ℕ → Contents P → Bool → Contents P → Type 0
    PlaysMove from number old room new =
        OfTaken m (nodes_of old) from (λ taken. PlaysOrOverflows m old.open_list.capacity from.place taken number old room new)

    abbrev pub PlaysMoves : TakenNode P → Contents P → Bool → Contents P → Type 0
    PlaysMoves from old room new =
        OfTaken m (nodes_of old) from (λ taken. PlaysAllOrOverflows m old.open_list.capacity from.place taken old room new)

    -- what a step needs to know: the search is opened, runs, has a node that is open, and its steps can be counted on
    pub record MayStep (c : Contents P) : Type 0 where
      pub known : NodeInvariant m (nodes_of c)
      pub opened : c.opened ≡ true
      pub runs : c.verdict ≡ Running
      pub countable : c.steps + 1 < 2 ^ 64
      pub busy : NoneOpen (nodes_of c) → ⊥

    abbrev pub TakesStep : Contents P → Contents P → Type 0
    TakesStep old new = MayStep old → Step m (length old.table) (state_of old) (state_of new)
