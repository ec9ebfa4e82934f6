-- What is known of each node is kept by every step. Assumes nothing.
use Rattle.std.proofs.Common.{◌≡◌, ℕ, zero, suc, ◌+◌, ◌<◌, ◌≤◌, ◌⊎◌, inl, inr, List, [], ◌∷◌, ◌++◌, length, slice_get, slice_set, Some, None, Option, refl, sym, ap, subst, ◌∙◌, length-set, length-append, arith}
use Rattle.std.proofs.lemmas.Option.{same_Some, none-some}
use Rattle.puzzle.specs.Game.{Reached, here}
use Rattle.puzzle.proofs.Reaching.{reached_more}
use Rattle.puzzle.specs.Meaning.{Meaning}
use Rattle.search_theory.specs.declared.Verdict.TheVariants.{Running, Unsolvable}
use Rattle.search_theory.specs.Nodes.{Node, closed_node, nearer_node}
use Rattle.search_theory.specs.Steps.{State, state, new_node, first_state, MovePlayed, closed_move, dead_end, no_nearer, nearer, stored, MovesPlayed, none, next}
use Rattle.search_theory.specs.inside.Invariants.{NodeInvariant}
use Rattle.search_theory.proofs.Places.{Put, put_set, put_push, push_kept}

module _ {P : Type 0} (m : Meaning P) where
  -- what is known of one node among so many
  record KnownNode (size : ℕ) (node : Node P) : Type 0 where
    reached : Reached m.game node.position
    key : node.key ≡ m.key node.position
    floor : m.lower_bound node.position ≡ Some node.floor
    depth : node.depth < size

  known_each : {nodes : List (Node P)} → NodeInvariant m nodes → (i : ℕ) (node : Node P) → slice_get nodes i ≡ Some node → KnownNode (length nodes) node
  known_each known i node there = record {
    reached = known.reached i node there;
    key = known.key i node there;
    floor = known.floor i node there;
    depth = known.depth i node there;
  }

  known_all : (nodes : List (Node P)) → ((i : ℕ) (node : Node P) → slice_get nodes i ≡ Some node → KnownNode (length nodes) node) → NodeInvariant m nodes
  known_all nodes each = record {
    reached = λ i node there. (each i node there).reached;
    key = λ i node there. (each i node there).key;
    floor = λ i node there. (each i node there).floor;
    depth = λ i node there. (each i node there).depth;
  }

  -- a node is written or added
  known_put : (old new : List (Node P)) (i : ℕ) (y : Node P) → Put old new i y → NodeInvariant m old → KnownNode (length new) y → NodeInvariant m new
  known_put old new i y put known mine = known_all new (λ j node there. of_each j node (put.back j node there))
    where
      of_each : (j : ℕ) (node : Node P) → ((j ≡ i) × (node ≡ y)) ⊎ ((j ≡ i → ⊥) × (slice_get old j ≡ Some node)) → KnownNode (length new) node
      of_each j node (inl same) = subst (λ n. KnownNode (length new) n) (sym same.1) mine
      of_each j node (inr other) =
          let k = known_each known j node other.1 in
          let longer = put.longer in
          record { reached = k.reached; key = k.key; floor = k.floor; depth = omega arith }

  -- a node is closed
  pub known_closed : (nodes : List (Node P)) (place : ℕ) (node : Node P) → NodeInvariant m nodes → slice_get nodes place ≡ Some node → NodeInvariant m (slice_set nodes place (closed_node node))
  known_closed nodes place node known there =
      let k = known_each known place node there in
      known_put nodes (slice_set nodes place (closed_node node)) place (closed_node node) (put_set nodes place node (closed_node node) there) known
      (record { reached = k.reached; key = k.key; floor = k.floor; depth = omega (arith, length-set nodes place (closed_node node)) })

  module _ (capacity place : ℕ) (taken : Node P) where
    -- one move of a node that is reached with fewer moves than there are nodes
    pub known_move : (number : ℕ) (old new : List (Node P)) → NodeInvariant m old → Reached m.game taken.position → taken.depth < length old → number < m.game.count
        → MovePlayed m capacity place taken number old new → NodeInvariant m new
    known_move number old new known reached fewer below (closed_move leads same) = subst (λ ns. NodeInvariant m ns) (sym same) known
    known_move number old new known reached fewer below (dead_end q leads dead same) = subst (λ ns. NodeInvariant m ns) (sym same) known
    known_move number old new known reached fewer below (no_nearer q floor j node leads alive there at near same) = subst (λ ns. NodeInvariant m ns) (sym same) known
    known_move number old new known reached fewer below (nearer q floor j node leads alive there at far same) =
        let y = nearer_node node (taken.depth + 1) place number in
        let k = known_each known j node there in
        subst (λ ns. NodeInvariant m ns) (sym same)
        (known_put old (slice_set old j y) j y (put_set old j node y there) known
        (record { reached = k.reached; key = k.key; floor = k.floor; depth = omega (arith, length-set old j y, k.depth) }))
    known_move number old new known reached fewer below (stored q floor leads fresh alive room same) =
        let y = new_node m capacity q (taken.depth + 1) place number floor in
        subst (λ ns. NodeInvariant m ns) (sym same)
        (known_put old (old ++ (y ∷ [])) (length old) y (put_push old y) known
        (record { reached = reached_more m.game taken.position q number reached below leads; key = refl; floor = alive; depth = omega (arith, length-append old (y ∷ [])) }))

    -- a played move leaves the node that it is played from as it is, since one move more is not fewer
    pub move_leaves : (number : ℕ) (old new : List (Node P)) (there : Node P) → slice_get old place ≡ Some there → there.depth ≤ taken.depth
        → MovePlayed m capacity place taken number old new → slice_get new place ≡ Some there
    move_leaves number old new there at low (closed_move leads same) = subst (λ ns. slice_get ns place ≡ Some there) (sym same) at
    move_leaves number old new there at low (dead_end q leads dead same) = subst (λ ns. slice_get ns place ≡ Some there) (sym same) at
    move_leaves number old new there at low (no_nearer q floor j node leads alive stands is near same) = subst (λ ns. slice_get ns place ≡ Some there) (sym same) at
    move_leaves number old new there at low (nearer q floor j node leads alive stands is far same) =
        let y = nearer_node node (taken.depth + 1) place number in
        let apart : place ≡ j → ⊥ = λ e. (let n : there ≡ node = same_Some there node (sym at ∙ ap (slice_get old) e ∙ stands) in let d : there.depth ≡ node.depth = ap (λ (z : Node P). z.depth) n in absurd (omega arith)) in
        subst (λ ns. slice_get ns place ≡ Some there) (sym same) ((put_set old j node y stands).kept place there at apart)
    move_leaves number old new there at low (stored q floor leads fresh alive room same) =
        let y = new_node m capacity q (taken.depth + 1) place number floor in
        subst (λ ns. slice_get ns place ≡ Some there) (sym same) (push_kept old y place there at)

    -- what holds while the moves are played: what is known, and the node that they are played from
    pub record Playing (there : Node P) (nodes : List (Node P)) : Type 0 where
      pub known : NodeInvariant m nodes
      pub at : slice_get nodes place ≡ Some there

    pub playing : (there : Node P) → there.position ≡ taken.position → there.depth ≡ taken.depth → (number : ℕ) (old nodes : List (Node P)) → NodeInvariant m old → slice_get old place ≡ Some there
        → number ≤ m.game.count → MovesPlayed m capacity place taken old number nodes → Playing there nodes
    playing there same deep zero old nodes known at below none = record { known = known; at = at }
    playing there same deep (suc number) old nodes known at below (next {nodes = mid} before move) =
        let p = playing there same deep number old mid known at (omega arith) before in
        let reached : Reached m.game taken.position = subst (λ q. Reached m.game q) same (p.known.reached place there p.at) in
        let fewer = p.known.depth place there p.at in
        record {
          known = known_move number mid nodes p.known reached (omega arith) (omega arith) move;
          at = move_leaves number mid nodes there p.at (omega arith) move;
        }

  -- what a search begins with is one of two states
  pub first_state_cases : (capacity : ℕ) (Q : State P → Type 0)
      → ((floor : ℕ) → m.lower_bound m.game.start ≡ Some floor → Q (state (new_node m capacity m.game.start 0 0 0 floor ∷ []) Running 0))
      → (m.lower_bound m.game.start ≡ None → Q (state [] Unsolvable 0)) → Q (first_state m capacity)
  first_state_cases capacity Q alive dead = by_bound (m.lower_bound m.game.start) refl
    where
      by_bound : (bound : Option ℕ) → m.lower_bound m.game.start ≡ bound
          → Q (elim bound [ Some floor ↦ state (new_node m capacity m.game.start 0 0 0 floor ∷ []) Running 0 | None ↦ state [] Unsolvable 0 ])
      by_bound (Some floor) is = alive floor is
      by_bound None is = dead is

  pub known_none : NodeInvariant m []
  known_none = known_all [] (λ i node there. absurd (none-some node there))

  known_start : (capacity floor : ℕ) → m.lower_bound m.game.start ≡ Some floor → NodeInvariant m (new_node m capacity m.game.start 0 0 0 floor ∷ [])
  known_start capacity floor alive =
      let y = new_node m capacity m.game.start 0 0 0 floor in
      known_put [] (y ∷ []) 0 y (put_push [] y) known_none (record { reached = ([], here); key = refl; floor = alive; depth = omega arith })

  pub known_first_state : (capacity : ℕ) → NodeInvariant m (first_state m capacity).nodes
  known_first_state capacity = first_state_cases capacity (λ t. NodeInvariant m t.nodes) (known_start capacity) (λ dead. known_none)
