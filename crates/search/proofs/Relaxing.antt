-- A node that is there, and one that was reached again. Assumes nothing.
use Rattle.std.proofs.Common.{◌≡◌, refl, sym, ap, subst, ◌∙◌, arith, ℕ, ◌/◌, ◌%◌, ◌<◌, ◌≤◌, true, false, nat_lt, List, length, set, slice_get, Some, None, Option}
use Rattle.std.proofs.lemmas.Bool.{lt-ltb, le-ltb, ltb-true, ltb-false, cond-true, cond-false}
use Rattle.std.proofs.lemmas.Option.{slice_get_within, same_Some, none-some}
use Rattle.open_list.specs.Entries.{Entry, nearer_entry}
use Rattle.open_list.specs.OpenList.{is_nearer}
use Rattle.search_theory.specs.Nodes.{Node, nearer_node}
use Rattle.search.specs.Contents.{node_of, nodes_from}
use Rattle.search.specs.inside.Memory.{link_of}
use Rattle.search.specs.inside.Parts.{relaxed_nodes}
use Rattle.search.proofs.Nodes.{some_there, node_parts, nodes_set, length-nodes}

pub link_parent : (parent move : ℕ) → move < 256 → link_of parent move / 256 ≡ parent
link_parent parent move small = omega arith

pub link_move : (parent move : ℕ) → move < 256 → link_of parent move % 256 ≡ move
link_move parent move small = omega arith

module _ {P : Type 0} where
  again_as : (node : Node P) (p : P) (e : Entry) (k l depth parent move : ℕ) → move < 256 → node ≡ node_of p e k l → node_of p (nearer_entry e depth) k (link_of parent move) ≡ nearer_node node depth parent move
  again_as node p e k l depth parent move small is =
      let a = link_parent parent move small in
      let b = link_move parent move small in
      cc

  relaxed_as : (ns : List (Node P)) (i : ℕ) (node : Node P) (o : Option (Node P)) (depth parent move : ℕ) → o ≡ Some node → depth < node.depth
      → relaxed_nodes ns i o depth parent move ≡ set ns i (nearer_node node depth parent move)
  relaxed_as ns i node o depth parent move is nearer = rw is (cond-true (nat_lt depth node.depth) _ _ (lt-ltb depth node.depth nearer))

  relaxed_as_it_was : (ns : List (Node P)) (i : ℕ) (node : Node P) (o : Option (Node P)) (depth parent move : ℕ) → o ≡ Some node → node.depth ≤ depth
      → relaxed_nodes ns i o depth parent move ≡ ns
  relaxed_as_it_was ns i node o depth parent move is further = rw is (cond-false (nat_lt depth node.depth) _ _ (le-ltb depth node.depth further))

  pub relaxed_none : (ns : List (Node P)) (i : ℕ) (o : Option (Node P)) (depth parent move : ℕ) → o ≡ None → relaxed_nodes ns i o depth parent move ≡ ns
  relaxed_none ns i o depth parent move is = rw is refl

module _ {P : Type 0} (ps : List P) (es : List Entry) (ks ls : List ℕ) (keyed : length ks ≡ length es) (deep : length es ≤ length ps) (linked : length es ≤ length ls) (i : ℕ) where
  -- a place in use has a node
  pub there : i < length es → (node : Node P) × (slice_get (nodes_from ps es ks ls) i ≡ Some node)
  there inside = some_there (nodes_from ps es ks ls) i (rw (length-nodes ps es ks ls keyed deep linked) inside)

  -- the entry at the place is the node's
  pub its_entry : (node : Node P) (e : Entry) → slice_get (nodes_from ps es ks ls) i ≡ Some node → slice_get es i ≡ Some e → (node.depth ≡ e.depth) × (node.floor ≡ e.floor) × (node.is_open ≡ e.is_open)
  its_entry node e at is =
      let h = node_parts ps es ks ls i node at in
      let same : h.entry ≡ e = same_Some h.entry e (sym h.entry_is ∙ is) in
      let parts = h.node_is in
      (cc, cc, cc)

  -- with fewer moves, both the entry and the link change
  pub relaxed_nearer : (node : Node P) (e : Entry) (depth parent move : ℕ) → slice_get (nodes_from ps es ks ls) i ≡ Some node → move < 256 → slice_get es i ≡ Some e → depth < e.depth
      → nodes_from ps (set es i (nearer_entry e depth)) ks (set ls i (link_of parent move)) ≡ relaxed_nodes (nodes_from ps es ks ls) i (slice_get (nodes_from ps es ks ls) i) depth parent move
  relaxed_nearer node e depth parent move at small is nearer =
      let h = node_parts ps es ks ls i node at in
      let same : h.entry ≡ e = same_Some h.entry e (sym h.entry_is ∙ is) in
      let deeper : depth < node.depth = rw ((its_entry node e at is).0) nearer in
      nodes_set ps es ks ls i h.position h.key (nearer_entry e depth) (link_of parent move) h.position_is h.key_is (slice_get_within ls i h.link h.link_is)
      ∙ ap (set (nodes_from ps es ks ls) i) (again_as node h.position e h.key h.link depth parent move small (h.node_is ∙ ap (λ x. node_of h.position x h.key h.link) same))
      ∙ sym (relaxed_as (nodes_from ps es ks ls) i node (slice_get (nodes_from ps es ks ls) i) depth parent move at deeper)

  -- with no fewer, nothing does
  pub relaxed_not : (node : Node P) (e : Entry) (depth parent move : ℕ) → slice_get (nodes_from ps es ks ls) i ≡ Some node → slice_get es i ≡ Some e → e.depth ≤ depth
      → nodes_from ps es ks ls ≡ relaxed_nodes (nodes_from ps es ks ls) i (slice_get (nodes_from ps es ks ls) i) depth parent move
  relaxed_not node e depth parent move at is further =
      let no_nearer : node.depth ≤ depth = rw ((its_entry node e at is).0) further in
      sym (relaxed_as_it_was (nodes_from ps es ks ls) i node (slice_get (nodes_from ps es ks ls) i) depth parent move at no_nearer)

  -- what `relax` leaves where the open list did not change
  pub relaxed_else : (depth parent move : ℕ) (o : Option Entry) (t : Option (Node P)) → slice_get es i ≡ o → slice_get (nodes_from ps es ks ls) i ≡ t → is_nearer depth o ≡ false
      → nodes_from ps es ks ls ≡ relaxed_nodes (nodes_from ps es ks ls) i (slice_get (nodes_from ps es ks ls) i) depth parent move
  relaxed_else depth parent move (Some e) (Some node) is at further = relaxed_not node e depth parent move at is (ltb-false depth e.depth further)
  relaxed_else depth parent move None (Some node) is at further = (let h = node_parts ps es ks ls i node at in absurd (none-some h.entry (sym is ∙ h.entry_is)))
  relaxed_else depth parent move (Some e) None is at further = sym (relaxed_none (nodes_from ps es ks ls) i (slice_get (nodes_from ps es ks ls) i) depth parent move at)
  relaxed_else depth parent move None None is at further = sym (relaxed_none (nodes_from ps es ks ls) i (slice_get (nodes_from ps es ks ls) i) depth parent move at)

  -- and where it did
  pub relaxed_then : (depth parent move : ℕ) (e : Entry) → move < 256 → slice_get es i ≡ Some e → is_nearer depth (slice_get es i) ≡ true
      → nodes_from ps (set es i (nearer_entry e depth)) ks (set ls i (link_of parent move)) ≡ relaxed_nodes (nodes_from ps es ks ls) i (slice_get (nodes_from ps es ks ls) i) depth parent move
  relaxed_then depth parent move e small is nearer =
      let found = there (slice_get_within es i e is) in
      let test : is_nearer depth (Some e) ≡ true = subst (λ o. is_nearer depth o ≡ true) is nearer in
      relaxed_nearer found.0 e depth parent move found.1 small is (ltb-true depth e.depth test)
