-- The node that is taken and finished was reached with the fewest moves. Assumes nothing.
use Rattle.std.proofs.Common.{◌≡◌, ℕ, ◌<◌, ◌≤◌, true, List, length, sym, subst, ◌∙◌, arith}
use Rattle.puzzle.specs.Game.{Finishes}
use Rattle.puzzle.specs.Meaning.{Meaning, Lawful}
use Rattle.std.proofs.lemmas.Bool.{true≢false}
use Rattle.search_theory.specs.Nodes.{Node, sum, IsTaken, NoneOpen}
use Rattle.search_theory.specs.inside.Invariants.{LinkedWay}
use Rattle.search_theory.proofs.Sound.{Sound, Everywhere, open_ahead}
use Rattle.search_theory.proofs.Trails.{trail}

-- only one node is taken
pub taken_once : {P : Type 0} (nodes : List (Node P)) (i j : ℕ) (a b : Node P) → IsTaken nodes i a → IsTaken nodes j b → i ≡ j
taken_once nodes i j a b one other =
    let l = one.first j b other.there other.is_open in
    let r = other.first i a one.there one.is_open in
    let below = l.lesser in
    let above = r.lesser in
    let sums : sum a ≡ sum b = omega arith in
    let deeper = l.deeper sums in
    let shallower = r.deeper (sym sums) in
    let depths : a.depth ≡ b.depth = omega arith in
    let first = l.earlier sums depths in
    let last = r.earlier (sym sums) (sym depths) in
    omega arith

module _ {P : Type 0} (m : Meaning P) where
  -- no moves that finish are fewer, and the links of the node that is taken lead along as many
  pub record Shortest (nodes : List (Node P)) (n : ℕ) : Type 0 where
    pub least : (moves : List ℕ) → Finishes m.game m.game.start moves → n ≤ length moves
    pub found : (place : ℕ) (node : Node P) → IsTaken nodes place node → LinkedWay m nodes n place
    pub reached : (moves : List ℕ) × (length moves ≡ n) × Finishes m.game m.game.start moves
    pub some_open : NoneOpen nodes → ⊥
    pub short : n < length nodes

  module _ (lawful : Lawful m) (nodes : List (Node P)) (sound : Sound m Everywhere nodes) (place : ℕ) (node : Node P) (taken : IsTaken nodes place node) (fin : m.game.finished node.position ≡ true) where
    least_moves : (moves : List ℕ) → Finishes m.game m.game.start moves → node.depth ≤ length moves
    least_moves moves finish =
        let a = open_ahead m lawful nodes sound moves finish in
        let first = (taken.first a.place a.node a.at a.is_open).lesser in
        let low = a.low in
        omega arith

    found_there : LinkedWay m nodes node.depth place
    found_there =
        let t = trail m nodes sound.linked place node taken.there in
        let finish : Finishes m.game m.game.start t.moves = record { last = node.position; plays = t.plays; finished = fin } in
        let least = least_moves t.moves finish in
        let short = t.short in
        record { moves = t.moves; leads = t.leads; count = omega arith; finish = finish }

    pub shortest : Shortest nodes node.depth
    shortest = record {
      least = least_moves;
      found = λ i other also. subst (λ k. LinkedWay m nodes node.depth k) (taken_once nodes place i node other taken also) found_there;
      reached = (found_there.moves, found_there.count, found_there.finish);
      short = sound.known.depth place node taken.there;
      some_open = λ shut. true≢false (sym taken.is_open ∙ shut place node taken.there);
    }
