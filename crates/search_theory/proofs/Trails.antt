-- The links of a node lead along moves that reach it, no more than its depth says. Assumes nothing.
use Rattle.std.proofs.Common.{◌≡◌, ℕ, zero, suc, ◌<◌, ◌≤◌, List, [], ◌∷◌, ◌++◌, length, slice_get, Some, refl, sym, subst, length-append, arith}
use Rattle.puzzle.specs.Game.{Plays, here}
use Rattle.puzzle.specs.Meaning.{Meaning}
use Rattle.search_theory.specs.Nodes.{Node}
use Rattle.search_theory.specs.inside.Invariants.{Leads, start, link}
use Rattle.puzzle.proofs.Reaching.{plays_more}
use Rattle.search_theory.proofs.Sound.{Linked, root, child}

module _ {P : Type 0} (m : Meaning P) (nodes : List (Node P)) (linked : (i : ℕ) (node : Node P) → slice_get nodes i ≡ Some node → Linked m nodes node) where
  -- the moves along the links of a node
  pub record Trail (place : ℕ) (node : Node P) : Type 0 where
    pub moves : List ℕ
    pub leads : Leads nodes place moves
    pub plays : Plays m.game m.game.start moves node.position
    pub short : length moves ≤ node.depth

  -- one link more
  linked_trail : (place : ℕ) (node : Node P) → slice_get nodes place ≡ Some node → Linked m nodes node
      → ((parent : Node P) → slice_get nodes node.parent ≡ Some parent → parent.depth < node.depth → Trail node.parent parent) → Trail place node
  linked_trail place node at (root is) before = record { moves = []; leads = start refl; plays = subst (λ p. Plays m.game m.game.start [] p) (sym is) here; short = omega arith }
  linked_trail place node at (child parent stands below leads fewer) before =
      let t = before parent stands fewer in
      let short = t.short in
      record {
        moves = t.moves ++ (node.move ∷ []);
        leads = link node t.moves at t.leads refl;
        plays = plays_more m.game m.game.start parent.position node.position t.moves node.move t.plays below leads;
        short = omega (arith, length-append t.moves (node.move ∷ []));
      }

  -- the recursion is on a number that the depth does not exceed
  trail_within : (most place : ℕ) (node : Node P) → slice_get nodes place ≡ Some node → node.depth ≤ most → Trail place node
  trail_within zero place node at low = linked_trail place node at (linked place node at) (λ parent stands fewer. absurd (omega arith))
  trail_within (suc n) place node at low = linked_trail place node at (linked place node at) (λ parent stands fewer. trail_within n node.parent parent stands (omega arith))

  pub trail : (place : ℕ) (node : Node P) → slice_get nodes place ≡ Some node → Trail place node
  trail place node at = trail_within node.depth place node at (omega arith)
