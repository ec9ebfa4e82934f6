-- What playing a move comes to. Assumes nothing.
use Rattle.std.proofs.Common.{◌≡◌, refl, sym, ap, subst, ◌∙◌, arith, ℕ, ◌+◌, ◌<◌, Bool, true, false, cond, nat_lt, List, [], ◌∷◌, ◌++◌, length, set, slice_get, Some}
use Rattle.std.proofs.lemmas.Bool.{ltb-true, ltb-false, cond-true, cond-false}
use Rattle.puzzle.specs.Game.{Reached}
use Rattle.puzzle.specs.Meaning.{Meaning, IfReached, PlaysPrepared}
use Rattle.puzzle.proofs.Reaching.{played_open, reached_more}
use Rattle.open_list.specs.Entries.{entry}
use Rattle.search_theory.specs.Nodes.{Node, closed_node, IsNew, nearer_node}
use Rattle.search_theory.specs.inside.Invariants.{NodeInvariant}
use Rattle.search_theory.specs.Steps.{new_node, MovePlayed, no_nearer, nearer, stored, Overflows}
use Rattle.search.specs.Contents.{Contents, node_of, nodes_of}
use Rattle.search.specs.inside.Memory.{link_of}
use Rattle.search.specs.inside.Parts.{Finds, Stores, relaxed_nodes, PlaysOrOverflows}
use Rattle.search.proofs.Relaxing.{link_parent, link_move}

-- an open move of the taken node, and where it leads
pub record LeadsTo {P : Type 0} (m : Meaning P) (taken : Node P) (number : ℕ) (to : P) : Type 0 where
  pub leads : m.game.move taken.position number ≡ Some to
  pub reached : Reached m.game to

-- a move that was played from what was prepared, and is open, leads to what was filled in
pub leads_to : {P Prepared : Type 0} (m : Meaning P) (nodes : List (Node P)) (place number : ℕ) (taken : Node P) (p old to : P) (is_open : Bool)
    → NodeInvariant m nodes → slice_get nodes place ≡ Some (closed_node taken) → taken.position ≡ p → IfReached m p Prepared
    → PlaysPrepared m p Prepared number is_open old to → is_open ≡ true → number < m.game.count → LeadsTo m taken number to
leads_to {P} {Prepared} m nodes place number taken p old to is_open known at position prepared plays opened below =
    let from = subst (Reached m.game) position (known.reached place (closed_node taken) at) in
    let opens = played_open (m.game.move p number) old to opened (plays from (prepared from)) in
    record {
      leads = ap (λ q. m.game.move q number) position ∙ opens;
      reached = reached_more m.game p to number from below opens;
    }

module _ {P : Type 0} (m : Meaning P) (capacity place : ℕ) (taken : Node P) (number : ℕ) (nodes : List (Node P)) (to : P) (leads : m.game.move taken.position number ≡ Some to) where
  -- the result is stored already
  pub known_again : (j depth : ℕ) (new : List (Node P)) → NodeInvariant m nodes → depth ≡ taken.depth + 1 → Finds nodes to (Some j) → new ≡ relaxed_nodes nodes j (slice_get nodes j) depth place number
      → MovePlayed m capacity place taken number nodes new
  known_again j depth new known deep found is =
      by_test (nat_lt depth found.0.depth) refl (is ∙ ap (λ o. relaxed_nodes nodes j o depth place number) found.1)
    where
      alive : m.lower_bound to ≡ Some found.0.floor
      alive = ap m.lower_bound (sym found.2) ∙ known.floor j found.0 found.1

      by_test : (b : Bool) → nat_lt depth found.0.depth ≡ b → new ≡ cond (nat_lt depth found.0.depth) (set nodes j (nearer_node found.0 depth place number)) nodes → MovePlayed m capacity place taken number nodes new
      by_test true test same =
          let fewer = ltb-true depth found.0.depth test in
          nearer to found.0.floor j found.0 leads alive found.1 found.2 (omega arith)
          (same ∙ cond-true (nat_lt depth found.0.depth) _ _ test ∙ ap (λ d. set nodes j (nearer_node found.0 d place number)) deep)
      by_test false test same =
          let further = ltb-false depth found.0.depth test in
          no_nearer to found.0.floor j found.0 leads alive found.1 found.2 (omega arith) (same ∙ cond-false (nat_lt depth found.0.depth) _ _ test)

  -- the node that is stored for a new result
  its_node : (key depth floor : ℕ) → depth ≡ taken.depth + 1 → key ≡ m.key to → number < 256 → node_of to (entry depth floor true) key (link_of place number) ≡ new_node m capacity to (taken.depth + 1) place number floor
  its_node key depth floor deep keyed small =
      let a = link_parent place number small in
      let b = link_move place number small in
      cc

  -- the result is new: it is stored, or there is no room
  pub known_new : (old new : Contents P) (room : Bool) (key depth floor : ℕ) → nodes ≡ nodes_of old → depth ≡ taken.depth + 1 → key ≡ m.key to → number < 256 → IsNew nodes to → m.lower_bound to ≡ Some floor
      → room ≡ nat_lt (length nodes) capacity → Stores (node_of to (entry depth floor true) key (link_of place number)) old room new → PlaysOrOverflows m capacity place taken number old room new
  known_new old new true key depth floor is deep keyed small fresh alive room after =
      subst (λ ns. MovePlayed m capacity place taken number ns (nodes_of new)) is
      (stored to floor leads fresh alive (ltb-true (length nodes) capacity (sym room)) (after.0 ∙ ap (λ ns. ns ++ (node_of to (entry depth floor true) key (link_of place number) ∷ [])) (sym is) ∙ ap (λ n. nodes ++ (n ∷ [])) (its_node key depth floor deep keyed small)))
  known_new old new false key depth floor is deep keyed small fresh alive room after =
      (subst (λ ns. Overflows m capacity place taken number ns) is (record { result = to; floor = floor; leads = leads; fresh = fresh; alive = alive; full = ltb-false (length nodes) capacity (sym room) }), ap nodes_of after)
