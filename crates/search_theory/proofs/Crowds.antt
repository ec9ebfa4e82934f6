-- A full table shows that more positions can be reached than it has places. Assumes nothing.
use Rattle.std.proofs.Common.{◌≡◌, ℕ, zero, suc, ◌+◌, ◌<◌, ◌≤◌, List, ◌∷◌, map, length, slice_get, Some, refl, sym, ap, subst, ◌∙◌, arith}
use Rattle.std.proofs.lemmas.Option.{same_Some}
use Rattle.std.proofs.lemmas.List.{length-map}
use Rattle.puzzle.specs.Game.{Reached, Distinct, CanReach}
use Rattle.puzzle.specs.Meaning.{Meaning}
use Rattle.search_theory.specs.Nodes.{Node}
use Rattle.search_theory.specs.Steps.{Overflows}
use Rattle.search_theory.specs.inside.Invariants.{NodeInvariant}
use Rattle.search_theory.proofs.Places.{get_map}
use Rattle.puzzle.proofs.Reaching.{reached_more}
use Rattle.search_theory.proofs.Sound.{Apart}

-- the positions of nodes
abbrev pub positions : {P : Type 0} → List (Node P) → List P
positions {P} nodes = map (λ (n : Node P). n.position) nodes

-- the node that holds a position of them
node_at : {P : Type 0} (nodes : List (Node P)) (i : ℕ) (p : P) → slice_get (positions nodes) i ≡ Some p → (node : Node P) × (slice_get nodes i ≡ Some node) × (node.position ≡ p)
node_at {P} nodes i p at = get_map (λ (n : Node P). n.position) nodes i p at

pub distinct_positions : {P : Type 0} (nodes : List (Node P)) → Apart nodes → Distinct (positions nodes)
distinct_positions nodes apart i j p at bt =
    let a = node_at nodes i p at in
    let b = node_at nodes j p bt in
    apart i j a.0 b.0 a.1 b.1 (a.2 ∙ sym b.2)

distinct_more : {P : Type 0} (p : P) (ps : List P) → Distinct ps → ((i : ℕ) → slice_get ps i ≡ Some p → ⊥) → Distinct (p ∷ ps)
distinct_more p ps apart fresh zero zero q at bt = refl
distinct_more p ps apart fresh zero (suc j) q at bt = absurd (fresh j (bt ∙ sym at))
distinct_more p ps apart fresh (suc i) zero q at bt = absurd (fresh i (at ∙ sym bt))
distinct_more p ps apart fresh (suc i) (suc j) q at bt = ap suc (apart i j q at bt)

module _ {P : Type 0} (m : Meaning P) (capacity place number : ℕ) (taken : Node P) (nodes : List (Node P)) (known : NodeInvariant m nodes) (from : Reached m.game taken.position)
    (below : number < m.game.count) (over : Overflows m capacity place taken number nodes) where
  fresh : (i : ℕ) → slice_get (positions nodes) i ≡ Some over.result → ⊥
  fresh i at = let a = node_at nodes i over.result at in over.fresh i a.0 a.1 a.2

  reached_each : (i : ℕ) (p : P) → slice_get (over.result ∷ positions nodes) i ≡ Some p → Reached m.game p
  reached_each zero p at = subst (λ q. Reached m.game q) (same_Some over.result p at) (reached_more m.game taken.position over.result number from below over.leads)
  reached_each (suc i) p at = let a = node_at nodes i p at in subst (λ q. Reached m.game q) a.2 (known.reached i a.0 a.1)

  pub crowd : Apart nodes → length nodes ≤ capacity → CanReach m.game (capacity + 1)
  crowd apart room = record {
    positions = over.result ∷ positions nodes;
    many = (let full = over.full in omega (arith, length-map nodes (λ (n : Node P). n.position)));
    distinct = distinct_more over.result (positions nodes) (distinct_positions nodes apart) fresh;
    reached = reached_each;
  }
