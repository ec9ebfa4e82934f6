-- What holds of a search after each step. Assumes nothing.
use Rattle.std.proofs.Common.{◌≡◌, ℕ, zero, suc, ◌+◌, ◌*◌, ◌<◌, ◌≤◌, true, false, List, [], ◌∷◌, length, slice_get, slice_set, Some, None, refl, sym, ap, subst, ◌∙◌, arith}
use Rattle.std.proofs.lemmas.Option.{same_Some, none-some}
use Rattle.std.proofs.lemmas.Bool.{true≢false}
use Rattle.puzzle.specs.Game.{here, Finishes, CanReach}
use Rattle.puzzle.specs.Meaning.{Meaning, Lawful}
use Rattle.search_theory.specs.declared.Verdict.{Verdict}
use Rattle.search_theory.specs.declared.Verdict.TheVariants.{Running, Solved, Unsolvable, TableFull}
use Rattle.search_theory.specs.Nodes.{Node, closed_node, IsTaken}
use Rattle.search_theory.specs.Steps.{State, state, new_node, first_state, MovesPlayed, Overflows, GoesOn, some_open, none_open, Step, finishes, expands, overflows}
use Rattle.search_theory.specs.inside.Invariants.{NodeInvariant}
use Rattle.search_theory.proofs.Invariants.{known_first_state, first_state_cases}
use Rattle.search_theory.proofs.Sound.{Apart, root, Sound, Everywhere, open_ahead}
use Rattle.search_theory.proofs.Weights.{weigh}
use Rattle.search_theory.proofs.Moves.{Halfway, halfway, halfway_begun, settle}
use Rattle.search_theory.proofs.Crowds.{crowd}
use Rattle.search_theory.proofs.Finishing.{Shortest, shortest}

module _ {P : Type 0} (m : Meaning P) (capacity : ℕ) where
  -- while it runs some node is open, and the nodes allow more steps
  pub record Proceeds (nodes : List (Node P)) (steps : ℕ) : Type 0 where
    pub sound : Sound m Everywhere nodes
    pub budget : steps + weigh nodes ≤ capacity * length nodes
    pub place : ℕ
    pub node : Node P
    pub at : slice_get nodes place ≡ Some node
    pub is_open : node.is_open ≡ true

  -- what a verdict says
  abbrev pub Says : List (Node P) → ℕ → Verdict → Type 0
  Says nodes steps Running = Proceeds nodes steps
  Says nodes steps (Solved n) = Shortest m nodes n
  Says nodes steps Unsolvable = (moves : List ℕ) → Finishes m.game m.game.start moves → ⊥
  Says nodes steps TableFull = CanReach m.game (capacity + 1)

  -- what holds of each state
  pub record Honest (t : State P) : Type 0 where
    pub known : NodeInvariant m t.nodes
    pub apart : Apart t.nodes
    pub room : length t.nodes ≤ capacity
    pub few : length t.nodes ≤ 1 + m.game.count * t.steps
    pub says : Says t.nodes t.steps t.verdict

  pub says_that : (t : State P) → Honest t → (verdict : Verdict) → t.verdict ≡ verdict → Says t.nodes t.steps verdict
  says_that t honest verdict is = subst (λ v. Says t.nodes t.steps v) is honest.says

  module _ (lawful : Lawful m) (old : State P) (honest : Honest old) (runs : old.verdict ≡ Running) (place : ℕ) (node : Node P) (taken : IsTaken old.nodes place node) where
    before : Proceeds old.nodes old.steps
    before = says_that old honest Running runs

    step_finished : m.game.finished node.position ≡ true → Honest (state old.nodes (Solved node.depth) (old.steps + 1))
    step_finished finished = record {
      known = honest.known;
      apart = honest.apart;
      room = honest.room;
      few = (let few = honest.few in omega arith);
      says = shortest m lawful old.nodes before.sound place node taken finished;
    }

    -- some of its moves are played
    pub played : (number : ℕ) (nodes : List (Node P)) → number ≤ m.game.count → MovesPlayed m capacity place node (slice_set old.nodes place (closed_node node)) number nodes
        → Halfway m capacity place node old.steps number nodes
    played number nodes below moves =
        halfway m capacity place node old.steps number (slice_set old.nodes place (closed_node node)) nodes
        (halfway_begun m capacity place node old.steps old.nodes taken before.sound before.budget honest.room honest.few) below moves

    played_honest : (number : ℕ) (nodes : List (Node P)) → number ≤ m.game.count → Halfway m capacity place node old.steps number nodes
        → (verdict : Verdict) → Says nodes (old.steps + 1) verdict → Honest (state nodes verdict (old.steps + 1))
    played_honest number nodes below half verdict says = record {
      known = half.sound.known;
      apart = half.sound.apart;
      room = half.room;
      few = (let few = half.few in omega arith);
      says = says;
    }

    step_overflowed : (number : ℕ) (nodes : List (Node P)) → MovesPlayed m capacity place node (slice_set old.nodes place (closed_node node)) number nodes → number < m.game.count
        → Overflows m capacity place node number nodes → Honest (state nodes TableFull (old.steps + 1))
    step_overflowed number nodes moves below over =
        let half = played number nodes (omega arith) moves in
        played_honest number nodes (omega arith) half TableFull
        (crowd m capacity place number node nodes half.sound.known (half.sound.known.reached place (closed_node node) half.at) below over half.sound.apart half.room)

    step_goes_on : m.game.finished node.position ≡ false → (nodes : List (Node P)) → MovesPlayed m capacity place node (slice_set old.nodes place (closed_node node)) m.game.count nodes
        → (verdict : Verdict) → GoesOn m capacity nodes verdict → Honest (state nodes verdict (old.steps + 1))
    step_goes_on unfinished nodes moves verdict on =
        let half = played m.game.count nodes (omega arith) moves in
        played_honest m.game.count nodes (omega arith) half verdict (by_verdict half on)
      where
        by_verdict : Halfway m capacity place node old.steps m.game.count nodes → GoesOn m capacity nodes verdict → Says nodes (old.steps + 1) verdict
        by_verdict half (some_open i other at is_open is) =
            let sound = settle m capacity place node old.steps unfinished nodes half in
            subst (λ v. Says nodes (old.steps + 1) v) (sym is) (record { sound = sound; budget = half.budget; place = i; node = other; at = at; is_open = is_open })
        by_verdict half (none_open shut is) =
            let sound = settle m capacity place node old.steps unfinished nodes half in
            subst (λ v. Says nodes (old.steps + 1) v) (sym is)
            (λ moves finish. (let a = open_ahead m lawful nodes sound moves finish in true≢false (sym a.is_open ∙ shut a.place a.node a.at)))

  pub step_honest : Lawful m → (old new : State P) → Honest old → Step m capacity old new → Honest new
  step_honest lawful old new honest (finishes place node runs taken finished same) =
      subst (λ t. Honest t) (sym same) (step_finished lawful old honest runs place node taken finished)
  step_honest lawful old new honest (expands place node nodes verdict runs taken unfinished moves on same) =
      subst (λ t. Honest t) (sym same) (step_goes_on lawful old honest runs place node taken unfinished nodes moves verdict on)
  step_honest lawful old new honest (overflows place number node nodes runs taken unfinished moves below over same) =
      subst (λ t. Honest t) (sym same) (step_overflowed lawful old honest runs place node taken number nodes moves below over)

  only_one : (y : Node P) (i : ℕ) (a : Node P) → slice_get (y ∷ []) i ≡ Some a → (i ≡ 0) × (y ≡ a)
  only_one y zero a at = (refl, same_Some y a at)
  only_one y (suc i) a at = absurd (none-some a at)

  start_sound : (y : Node P) → y.position ≡ m.game.start → y.depth ≡ 0 → y.is_open ≡ true → NodeInvariant m (y ∷ []) → Sound m Everywhere (y ∷ [])
  start_sound y is none is_open known = record {
    known = known;
    apart = λ i j a b at bt same. (only_one y i a at).0 ∙ sym (only_one y j b bt).0;
    begins = record { place = 0; node = y; at = refl; same = is; near = omega arith };
    settled = λ i a at shut settles. absurd (true≢false (sym is_open ∙ (ap (λ (z : Node P). z.is_open) (only_one y i a at).1 ∙ shut)));
    linked = λ i a at. root (ap (λ (z : Node P). z.position) (sym (only_one y i a at).1) ∙ is);
  }

  -- a search that begins holds the start, or nothing
  pub first_state_honest : Lawful m → 1 ≤ capacity → Honest (first_state m capacity)
  first_state_honest lawful some = first_state_cases m capacity (λ t. NodeInvariant m t.nodes → Honest t) alive dead (known_first_state m capacity)
    where
      alive : (floor : ℕ) → m.lower_bound m.game.start ≡ Some floor → NodeInvariant m (new_node m capacity m.game.start 0 0 0 floor ∷ [])
          → Honest (state (new_node m capacity m.game.start 0 0 0 floor ∷ []) Running 0)
      alive floor is known =
          let y = new_node m capacity m.game.start 0 0 0 floor in
          let sound = start_sound y refl refl refl known in
          record {
            known = known;
            apart = sound.apart;
            room = omega arith;
            few = omega arith;
            says = record { sound = sound; budget = omega arith; place = 0; node = y; at = refl; is_open = refl };
          }

      dead : m.lower_bound m.game.start ≡ None → NodeInvariant m [] → Honest (state [] Unsolvable 0)
      dead is known = record {
        known = known;
        apart = λ i j a b at bt same. absurd (none-some a at);
        room = omega arith;
        few = omega arith;
        says = lawful.dead m.game.start ([], here) is;
      }
