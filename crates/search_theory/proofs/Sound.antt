-- What holds of the nodes between steps, and why an open node lies on every way to the finish. Assumes nothing.
use Rattle.std.proofs.Common.{◌≡◌, ℕ, ◌+◌, ◌<◌, ◌≤◌, ◌⊎◌, inl, inr, Bool, true, false, List, [], ◌∷◌, ◌++◌, length, slice_get, slice_set, Some, None, Option, refl, sym, ap, subst, ◌∙◌, arith}
use Rattle.std.proofs.lemmas.Option.{same_Some, slice_get_within}
use Rattle.std.proofs.lemmas.Bool.{true≢false, cases_eq}
use Rattle.puzzle.specs.Game.{Plays, Reached, here, then, Finishes}
use Rattle.puzzle.specs.Meaning.{Meaning, Lawful}
use Rattle.search_theory.specs.Nodes.{Node, sum}
use Rattle.search_theory.specs.inside.Invariants.{NodeInvariant}
use Rattle.search_theory.proofs.Places.{Put, put_set, put_push}
use Rattle.puzzle.proofs.Reaching.{reached_more}

-- a node is written over one with the same position and no fewer moves, or added
pub record Improves {P : Type 0} (old new : List (Node P)) (i : ℕ) (y : Node P) : Type 0 where
  pub put : Put old new i y
  pub over : (a : Node P) → slice_get old i ≡ Some a → (a.position ≡ y.position) × (y.depth ≤ a.depth)

pub improves_set : {P : Type 0} (nodes : List (Node P)) (i : ℕ) (x y : Node P) → slice_get nodes i ≡ Some x → x.position ≡ y.position → y.depth ≤ x.depth → Improves nodes (slice_set nodes i y) i y
improves_set {P} nodes i x y there same low = record {
  put = put_set nodes i x y there;
  over = λ a at. (let e : x ≡ a = same_Some x a (sym there ∙ at) in subst (λ (z : Node P). (z.position ≡ y.position) × (y.depth ≤ z.depth)) e (same, low));
}

pub improves_push : {P : Type 0} (nodes : List (Node P)) (y : Node P) → Improves nodes (nodes ++ (y ∷ [])) (length nodes) y
improves_push nodes y = record {
  put = put_push nodes y;
  over = λ a at. (let inside = slice_get_within nodes (length nodes) a at in absurd (omega arith));
}

-- no position stands twice
abbrev pub Apart : {P : Type 0} → List (Node P) → Type 0
Apart {P} nodes = (i j : ℕ) (a b : Node P) → slice_get nodes i ≡ Some a → slice_get nodes j ≡ Some b → a.position ≡ b.position → i ≡ j

-- a position is stored, reached with at most so many moves
pub record IsStored {P : Type 0} (nodes : List (Node P)) (p : P) (most : ℕ) : Type 0 where
  pub place : ℕ
  pub node : Node P
  pub at : slice_get nodes place ≡ Some node
  pub same : node.position ≡ p
  pub near : node.depth ≤ most

pub stored_kept : {P : Type 0} {old new : List (Node P)} {i : ℕ} {y : Node P} → Improves old new i y → (p : P) (most : ℕ) → IsStored old p most → IsStored new p most
stored_kept {P} {old} {new} {i} {y} better p most s = by_place (cases_eq s.place i)
  where
    by_place : (s.place ≡ i) ⊎ (s.place ≡ i → ⊥) → IsStored new p most
    by_place (inl same) =
        let o = better.over s.node (subst (λ k. slice_get old k ≡ Some s.node) same s.at) in
        let low = o.1 in
        let near = s.near in
        record { place = i; node = y; at = better.put.here; same = sym o.0 ∙ s.same; near = omega arith }
    by_place (inr other) = record { place = s.place; node = s.node; at = better.put.kept s.place s.node s.at other; same = s.same; near = s.near }

-- between steps all closed nodes are settled; while a node's moves are played, all but that one
abbrev pub Everywhere : ℕ → Type 0
Everywhere i = Unit {0}

abbrev pub Elsewhere : ℕ → ℕ → Type 0
Elsewhere place i = i ≡ place → ⊥

module _ {P : Type 0} (m : Meaning P) where
  -- what the first few moves from a position lead to is stored, if it is not dead
  abbrev pub Covered : List (Node P) → P → ℕ → ℕ → Type 0
  Covered nodes p most count = (number : ℕ) (q : P) (floor : ℕ) → number < count → m.game.move p number ≡ Some q → m.lower_bound q ≡ Some floor → IsStored nodes q most

  -- a node holds the start, or was reached by its move from its parent, which was reached with fewer
  pub data Linked (nodes : List (Node P)) (node : Node P) : Type 0 where
    root : node.position ≡ m.game.start → Linked nodes node
    child : (parent : Node P) → slice_get nodes node.parent ≡ Some parent → node.move < m.game.count → m.game.move parent.position node.move ≡ Some node.position
        → parent.depth < node.depth → Linked nodes node

  -- a closed node is not finished, and where its moves lead to is stored
  pub record Settled (nodes : List (Node P)) (node : Node P) : Type 0 where
    pub unfinished : m.game.finished node.position ≡ false
    pub covered : Covered nodes node.position (node.depth + 1) m.game.count

  -- the closed nodes at some places are settled
  pub record Sound (Settles : ℕ → Type 0) (nodes : List (Node P)) : Type 0 where
    pub known : NodeInvariant m nodes
    pub apart : Apart nodes
    pub begins : IsStored nodes m.game.start 0
    pub settled : (i : ℕ) (node : Node P) → slice_get nodes i ≡ Some node → node.is_open ≡ false → Settles i → Settled nodes node
    pub linked : (i : ℕ) (node : Node P) → slice_get nodes i ≡ Some node → Linked nodes node

  linked_kept : {old new : List (Node P)} {i : ℕ} {y : Node P} → Improves old new i y → (node : Node P) → Linked old node → Linked new node
  linked_kept better node (root is) = root is
  linked_kept {old} {new} {i} {y} better node (child parent at below leads fewer) = by_place (cases_eq node.parent i)
    where
      by_place : (node.parent ≡ i) ⊎ (node.parent ≡ i → ⊥) → Linked new node
      by_place (inl same) =
          let o = better.over parent (subst (λ k. slice_get old k ≡ Some parent) same at) in
          let low = o.1 in
          child y (subst (λ k. slice_get new k ≡ Some y) (sym same) better.put.here) below (subst (λ p. m.game.move p node.move ≡ Some node.position) o.0 leads) (omega arith)
      by_place (inr other) = child parent (better.put.kept node.parent parent at other) below leads fewer

  settled_kept : {old new : List (Node P)} {i : ℕ} {y : Node P} → Improves old new i y → (node : Node P) → Settled old node → Settled new node
  settled_kept better node s = record {
    unfinished = s.unfinished;
    covered = λ number q floor below leads alive. stored_kept better q (node.depth + 1) (s.covered number q floor below leads alive);
  }

  module _ (Before After : ℕ → Type 0) (old new : List (Node P)) (i : ℕ) (y : Node P) (better : Improves old new i y) (sound : Sound Before old)
      (only : (j : ℕ) (b : Node P) → slice_get old j ≡ Some b → b.position ≡ y.position → j ≡ i) where
    improved_apart : Apart new
    improved_apart j k a b at bt same = by_both (better.put.back j a at) (better.put.back k b bt)
      where
        by_both : ((j ≡ i) × (a ≡ y)) ⊎ ((j ≡ i → ⊥) × (slice_get old j ≡ Some a)) → ((k ≡ i) × (b ≡ y)) ⊎ ((k ≡ i → ⊥) × (slice_get old k ≡ Some b)) → j ≡ k
        by_both (inl l) (inl r) = l.0 ∙ sym r.0
        by_both (inl l) (inr r) = absurd (r.0 (only k b r.1 (sym same ∙ ap (λ (z : Node P). z.position) l.1)))
        by_both (inr l) (inl r) = absurd (l.0 (only j a l.1 (same ∙ ap (λ (z : Node P). z.position) r.1)))
        by_both (inr l) (inr r) = sound.apart j k a b l.1 r.1 same

    -- one better node keeps all of it
    pub improved : NodeInvariant m new → Linked old y → (y.is_open ≡ false → After i → ⊥) → ((j : ℕ) → (j ≡ i → ⊥) → After j → Before j) → Sound After new
    improved known link unsettled fewer = record {
      known = known;
      apart = improved_apart;
      begins = stored_kept better m.game.start 0 sound.begins;
      settled = λ j node at shut settles. settled_at j node shut settles (better.put.back j node at);
      linked = λ j node at. linked_at j node (better.put.back j node at);
    }
      where
        settled_at : (j : ℕ) (node : Node P) → node.is_open ≡ false → After j → ((j ≡ i) × (node ≡ y)) ⊎ ((j ≡ i → ⊥) × (slice_get old j ≡ Some node)) → Settled new node
        settled_at j node shut settles (inl same) = absurd (unsettled (ap (λ (z : Node P). z.is_open) (sym same.1) ∙ shut) (subst (λ k. After k) same.0 settles))
        settled_at j node shut settles (inr other) = settled_kept better node (sound.settled j node other.1 shut (fewer j other.0 settles))

        linked_at : (j : ℕ) (node : Node P) → ((j ≡ i) × (node ≡ y)) ⊎ ((j ≡ i → ⊥) × (slice_get old j ≡ Some node)) → Linked new node
        linked_at j node (inl same) = linked_kept better node (subst (λ n. Linked old n) (sym same.1) link)
        linked_at j node (inr other) = linked_kept better node (sound.linked j node other.1)

  -- an open node whose sum is small
  pub record Ahead (nodes : List (Node P)) (most : ℕ) : Type 0 where
    pub place : ℕ
    pub node : Node P
    pub at : slice_get nodes place ≡ Some node
    pub is_open : node.is_open ≡ true
    pub low : sum node ≤ most

  -- a position from which moves finish is not dead
  alive : Lawful m → (p : P) (moves : List ℕ) → Reached m.game p → Finishes m.game p moves → (floor : ℕ) × (m.lower_bound p ≡ Some floor)
  alive lawful p moves reached finish = by_bound (m.lower_bound p) refl
    where
      by_bound : (bound : Option ℕ) → m.lower_bound p ≡ bound → (floor : ℕ) × (m.lower_bound p ≡ Some floor)
      by_bound (Some floor) is = (floor, is)
      by_bound None is = absurd (lawful.dead p reached is moves finish)

  module _ (lawful : Lawful m) (nodes : List (Node P)) (sound : Sound Everywhere nodes) where
    -- walking along moves that finish, from a node on, an open node is met
    ahead : (p q : P) (moves : List ℕ) → Plays m.game p moves q → m.game.finished q ≡ true → (i : ℕ) (node : Node P) → slice_get nodes i ≡ Some node → node.position ≡ p
        → (most : ℕ) → node.depth + length moves ≤ most → (b : Bool) → node.is_open ≡ b → Ahead nodes most
    ahead p q moves plays fin i node at is most near true is_open =
        let finish : Finishes m.game node.position moves = record { last = q; plays = subst (λ z. Plays m.game z moves q) (sym is) plays; finished = fin } in
        let low = lawful.admissible node.position (sound.known.reached i node at) node.floor (sound.known.floor i node at) moves finish in
        record { place = i; node = node; at = at; is_open = is_open; low = omega arith }
    ahead p q [] here fin i node at is most near false shut =
        let s = sound.settled i node at shut tt in
        absurd (true≢false (sym fin ∙ (ap m.game.finished (sym is) ∙ s.unfinished)))
    ahead p q (number ∷ moves) (then {q = r} below leads more) fin i node at is most near false shut =
        let leads_on : m.game.move node.position number ≡ Some r = ap (λ z. m.game.move z number) is ∙ leads in
        let reached = reached_more m.game node.position r number (sound.known.reached i node at) below leads_on in
        let a = alive lawful r moves reached (record { last = q; plays = more; finished = fin }) in
        let s = (sound.settled i node at shut tt).covered number r a.0 below leads_on a.1 in
        let nearer = s.near in
        ahead r q moves more fin s.place s.node s.at s.same most (omega arith) s.node.is_open refl

    -- on each way from the start to the finish lies an open node
    pub open_ahead : (moves : List ℕ) → Finishes m.game m.game.start moves → Ahead nodes (length moves)
    open_ahead moves finish =
        let s = sound.begins in
        let near = s.near in
        ahead m.game.start finish.last moves finish.plays finish.finished s.place s.node s.at s.same (length moves) (omega arith) s.node.is_open refl
