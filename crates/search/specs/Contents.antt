-- What a search holds, and the nodes that this shows. Assumes nothing.
use Rattle.std.specs.Prelude.{◌≡◌, ℕ, ◌+◌, ◌/◌, ◌%◌, Bool, cond, List, [], ◌∷◌, ◌++◌, length, Some, None}
use Rattle.open_list.specs.Entries.{Entry}
use Rattle.open_list.specs.OpenList.{Queue}
use Rattle.hash_index.specs.Index.{Index}
use Rattle.search_theory.specs.declared.Verdict.{Verdict}
use Rattle.search_theory.specs.Nodes.{Node}
use Rattle.search_theory.specs.Steps.{State, state}
use Rattle.search_theory.specs.Calls.{Search}

-- the lent table and the three parts of the lent list: open list, index and links; whether it is opened, its verdict and steps
pub record Contents (P : Type 0) : Type 0 where
  pub table : List P
  pub open_list : Queue
  pub index : Index
  pub links : List ℕ
  pub opened : Bool
  pub verdict : Verdict
  pub steps : ℕ

-- a link is 256 times the parent's place, and the move
abbrev pub node_of : {P : Type 0} → P → Entry → ℕ → ℕ → Node P
node_of p e key link = record { position = p; depth = e.depth; parent = link / 256; move = link % 256; floor = e.floor; key = key; is_open = e.is_open }

-- the nodes, from their positions, entries, keys and links
abbrev pub nodes_from : {P : Type 0} → List P → List Entry → List ℕ → List ℕ → List (Node P)
nodes_from ps [] ks ls = []
nodes_from [] (e ∷ es) ks ls = []
nodes_from (p ∷ ps) (e ∷ es) [] ls = []
nodes_from (p ∷ ps) (e ∷ es) (k ∷ ks) [] = []
nodes_from (p ∷ ps) (e ∷ es) (k ∷ ks) (l ∷ ls) = node_of p e k l ∷ nodes_from ps es ks ls

module _ {P : Type 0} where
  unfoldable pub nodes_of : Contents P → List (Node P)
  nodes_of c = nodes_from c.table c.open_list.entries c.index.keys c.links

  abbrev pub numbers_of : Contents P → ℕ
  numbers_of c = length c.open_list.numbers + length c.index.numbers + length c.links

  abbrev pub state_of : Contents P → State P
  state_of c = state (nodes_of c) c.verdict c.steps

  -- it lies in the lent memory: the table, and the list in its three parts
  abbrev pub LiesIn : Contents P → List P → List ℕ → Type 0
  LiesIn c table numbers = (c.table ≡ table) × (c.open_list.numbers ++ (c.index.numbers ++ c.links) ≡ numbers)

  -- the search as its calls see it
  abbrev pub search_of : Contents P → Search P
  search_of c = record {
    places = length c.table;
    numbers = numbers_of c;
    state = cond c.opened (Some (state_of c)) None;
  }
