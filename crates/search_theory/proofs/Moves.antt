-- What holds while the moves of a taken node are played. Assumes nothing.
use Rattle.std.proofs.Common.{◌≡◌, ℕ, zero, suc, ◌+◌, ◌*◌, ◌<◌, ◌≤◌, ◌⊎◌, inl, inr, true, false, List, [], ◌∷◌, ◌++◌, length, slice_get, slice_set, Some, refl, sym, ap, subst, ◌∙◌, length-set, length-append, arith}
use Rattle.std.proofs.lemmas.Option.{same_Some, none-some}
use Rattle.std.proofs.lemmas.Bool.{true≢false, cases_eq}
use Rattle.puzzle.specs.Meaning.{Meaning}
use Rattle.search_theory.specs.Nodes.{Node, closed_node, nearer_node, IsTaken}
use Rattle.search_theory.specs.Steps.{new_node, MovePlayed, closed_move, dead_end, no_nearer, nearer, stored, MovesPlayed, none, next}
use Rattle.search_theory.specs.inside.Invariants.{NodeInvariant}
use Rattle.search_theory.proofs.Places.{put_set}
use Rattle.search_theory.proofs.Invariants.{known_move, known_closed, move_leaves}
use Rattle.search_theory.proofs.Sound.{Improves, improves_set, improves_push, IsStored, stored_kept, Covered, Linked, root, child, Settled, Sound, Everywhere, Elsewhere, improved}
use Rattle.search_theory.proofs.Weights.{weigh, weigh_push, weigh_set, open_weight}

module _ {P : Type 0} (m : Meaning P) (capacity place : ℕ) (taken : Node P) (steps : ℕ) where
  -- the first few moves of the taken node are played
  pub record Halfway (number : ℕ) (nodes : List (Node P)) : Type 0 where
    pub sound : Sound m (Elsewhere place) nodes
    pub at : slice_get nodes place ≡ Some (closed_node taken)
    pub covered : Covered m nodes taken.position (taken.depth + 1) number
    pub budget : steps + 1 + weigh nodes ≤ capacity * length nodes
    pub room : length nodes ≤ capacity
    pub few : length nodes ≤ 1 + m.game.count * steps + number

  -- one move more is covered where what it leads to is stored
  covered_more : (nodes : List (Node P)) (number : ℕ) → Covered m nodes taken.position (taken.depth + 1) number
      → ((q : P) (floor : ℕ) → m.game.move taken.position number ≡ Some q → m.lower_bound q ≡ Some floor → IsStored nodes q (taken.depth + 1))
      → Covered m nodes taken.position (taken.depth + 1) (suc number)
  covered_more nodes number before last k q floor below leads alive = by_number (cases_eq k number)
    where
      by_number : (k ≡ number) ⊎ (k ≡ number → ⊥) → IsStored nodes q (taken.depth + 1)
      by_number (inl same) = last q floor (ap (m.game.move taken.position) (sym same) ∙ leads) alive
      by_number (inr other) = before k q floor (omega arith) leads alive

  module _ (number : ℕ) (old : List (Node P)) (half : Halfway number old) (below : number < m.game.count) where
    -- a move that changes nothing
    unchanged : (new : List (Node P)) → new ≡ old
        → ((q : P) (floor : ℕ) → m.game.move taken.position number ≡ Some q → m.lower_bound q ≡ Some floor → IsStored old q (taken.depth + 1)) → Halfway (suc number) new
    unchanged new same last = subst (λ ns. Halfway (suc number) ns) (sym same) (record {
      sound = half.sound;
      at = half.at;
      covered = covered_more old number half.covered last;
      budget = half.budget;
      room = half.room;
      few = (let few = half.few in omega arith);
    })

    -- a move that writes or adds a node for what it leads to
    changed : (new : List (Node P)) (q : P) (i : ℕ) (y : Node P) → m.game.move taken.position number ≡ Some q → MovePlayed m capacity place taken number old new
        → Improves old new i y → ((j : ℕ) (b : Node P) → slice_get old j ≡ Some b → b.position ≡ q → j ≡ i)
        → y.position ≡ q → y.depth ≡ taken.depth + 1 → y.parent ≡ place → y.move ≡ number → y.is_open ≡ true
        → steps + 1 + weigh new ≤ capacity * length new → length new ≤ capacity → length new ≤ 1 + length old → Halfway (suc number) new
    changed new q i y leads move better only is deep parent by is_open budget room one = record {
      sound = improved m (Elsewhere place) (Elsewhere place) old new i y better half.sound (λ j b at same. only j b at (same ∙ is)) known link (λ shut. absurd (true≢false (sym is_open ∙ shut))) (λ j other settles. settles);
      at = move_leaves m capacity place taken number old new (closed_node taken) half.at (omega arith) move;
      covered = covered_more new number
          (λ k r floor less to alive. stored_kept better r (taken.depth + 1) (half.covered k r floor less to alive))
          (λ r floor to alive. record { place = i; node = y; at = better.put.here; same = is ∙ same_Some q r (sym leads ∙ to); near = omega arith });
      budget = budget;
      room = room;
      few = (let few = half.few in omega arith);
    }
      where
        known : NodeInvariant m new
        known = known_move m capacity place taken number old new half.sound.known (half.sound.known.reached place (closed_node taken) half.at) (half.sound.known.depth place (closed_node taken) half.at) below move

        link : Linked m old y
        link = child (closed_node taken) (ap (slice_get old) parent ∙ half.at) (subst (λ k. k < m.game.count) (sym by) below)
            (ap (m.game.move taken.position) by ∙ (leads ∙ ap Some (sym is))) (omega arith)

    halfway_move : (new : List (Node P)) → MovePlayed m capacity place taken number old new → Halfway (suc number) new
    halfway_move new (closed_move leads same) = unchanged new same (λ q floor to alive. absurd (none-some q (sym leads ∙ to)))
    halfway_move new (dead_end q leads dead same) =
        unchanged new same (λ r floor to alive. absurd (none-some floor (sym dead ∙ (ap m.lower_bound (same_Some q r (sym leads ∙ to)) ∙ alive))))
    halfway_move new (no_nearer q floor j node leads alive at is near same) =
        unchanged new same (λ r bound to lives. record { place = j; node = node; at = at; same = is ∙ same_Some q r (sym leads ∙ to); near = near })
    halfway_move new (nearer q floor j node leads alive at is far same) =
        let y = nearer_node node (taken.depth + 1) place number in
        let budget = half.budget in
        let room = half.room in
        subst (λ ns. MovePlayed m capacity place taken number old ns → Halfway (suc number) ns) (sym same)
        (λ move. changed (slice_set old j y) q j y leads move (improves_set old j node y at refl (omega arith)) (λ i b there of. half.sound.apart i j b node there at (of ∙ sym is))
        is refl refl refl refl (simp length-set (omega (arith, weigh_set old j node y at))) (omega (arith, length-set old j y)) (omega (arith, length-set old j y)))
        (nearer q floor j node leads alive at is far same)
    halfway_move new (stored q floor leads fresh alive free same) =
        let y = new_node m capacity q (taken.depth + 1) place number floor in
        let budget = half.budget in
        let deep = half.sound.known.depth place (closed_node taken) half.at in
        subst (λ ns. MovePlayed m capacity place taken number old ns → Halfway (suc number) ns) (sym same)
        (λ move. changed (old ++ (y ∷ [])) q (length old) y leads move (improves_push old y) (λ i b there of. absurd (fresh i b there of))
        refl refl refl refl refl (simp (length-append, weigh_push) (omega arith)) (omega (arith, length-append old (y ∷ []))) (omega (arith, length-append old (y ∷ []))))
        (stored q floor leads fresh alive free same)

  pub halfway : (number : ℕ) (old new : List (Node P)) → Halfway 0 old → number ≤ m.game.count → MovesPlayed m capacity place taken old number new → Halfway number new
  halfway zero old new half below none = half
  halfway (suc number) old new half below (next {nodes = mid} before move) = halfway_move number mid (halfway number old mid half (omega arith) before) (omega arith) new move

  -- when all its moves are played the taken node is settled too
  pub settle : m.game.finished taken.position ≡ false → (nodes : List (Node P)) → Halfway m.game.count nodes → Sound m Everywhere nodes
  settle unfinished nodes half = record {
    known = half.sound.known;
    apart = half.sound.apart;
    begins = half.sound.begins;
    settled = λ i node at shut settles. settled_at i node at shut (cases_eq i place);
    linked = half.sound.linked;
  }
    where
      settled_at : (i : ℕ) (node : Node P) → slice_get nodes i ≡ Some node → node.is_open ≡ false → (i ≡ place) ⊎ (i ≡ place → ⊥) → Settled m nodes node
      settled_at i node at shut (inl same) =
          let mine : closed_node taken ≡ node = same_Some (closed_node taken) node (sym half.at ∙ (ap (slice_get nodes) (sym same) ∙ at)) in
          subst (λ n. Settled m nodes n) mine (record { unfinished = unfinished; covered = half.covered })
      settled_at i node at shut (inr other) = half.sound.settled i node at shut other

  -- a taken node is closed before its moves are played
  module _ (nodes : List (Node P)) (there : IsTaken nodes place taken) where
    closed_linked : Linked m nodes taken → Linked m nodes (closed_node taken)
    closed_linked (root is) = root is
    closed_linked (child parent at below leads fewer) = child parent at below leads fewer

    pub halfway_begun : Sound m Everywhere nodes → steps + weigh nodes ≤ capacity * length nodes → length nodes ≤ capacity → length nodes ≤ 1 + m.game.count * steps
        → Halfway 0 (slice_set nodes place (closed_node taken))
    halfway_begun sound budget room few = record {
      sound = improved m Everywhere (Elsewhere place) nodes (slice_set nodes place (closed_node taken)) place (closed_node taken)
          (improves_set nodes place taken (closed_node taken) there.there refl (omega arith)) sound
          (λ j b at same. sound.apart j place b taken at there.there same)
          (known_closed m nodes place taken sound.known there.there) (closed_linked (sound.linked place taken there.there))
          (λ shut settles. settles refl) (λ j other settles. tt);
      at = (put_set nodes place taken (closed_node taken) there.there).here;
      covered = λ number q floor below leads alive. absurd (omega arith);
      budget = simp length-set (omega (arith, weigh_set nodes place taken (closed_node taken) there.there, open_weight taken there.is_open));
      room = omega (arith, length-set nodes place (closed_node taken));
      few = omega (arith, length-set nodes place (closed_node taken));
    }
