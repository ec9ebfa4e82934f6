-- A step has one outcome. Assumes nothing.
use Rattle.std.proofs.Common.{◌≡◌, ℕ, zero, suc, ◌+◌, ◌<◌, ◌≤◌, ◌⊎◌, inl, inr, Bool, true, false, cond, nat_lt, List, [], ◌∷◌, ◌++◌, length, slice_get, slice_set, Some, None, Option, refl, sym, ap, subst, ◌∙◌, arith}
use Rattle.std.proofs.lemmas.Option.{same_Some}
use Rattle.std.proofs.lemmas.Bool.{true≢false, cases_eq, cases_order, cond_below, cond_above}
use Rattle.puzzle.specs.Meaning.{Meaning, Lawful}
use Rattle.search_theory.specs.declared.Verdict.{Verdict}
use Rattle.search_theory.specs.declared.Verdict.TheVariants.{Running, Solved, TableFull}
use Rattle.search_theory.specs.Nodes.{Node, closed_node, nearer_node, IsTaken, IsNew}
use Rattle.search_theory.specs.Steps.{State, state, new_node, MovePlayed, closed_move, dead_end, no_nearer, nearer, stored, MovesPlayed, none, next, Overflows, GoesOn, some_open, none_open, Step, finishes, expands, overflows}
use Rattle.search_theory.proofs.Sound.{Apart}
use Rattle.search_theory.proofs.Finishing.{taken_once}
use Rattle.search_theory.proofs.Stepping.{Honest, played}

module _ {P : Type 0} (m : Meaning P) (capacity place : ℕ) (taken : Node P) where
  module _ (number : ℕ) (old : List (Node P)) where
    -- what becomes of a result that is not dead
    data Lands (q : P) (floor : ℕ) (new : List (Node P)) : Type 0 where
      again : (j : ℕ) (node : Node P) → slice_get old j ≡ Some node → node.position ≡ q
          → new ≡ cond (nat_lt (taken.depth + 1) node.depth) (slice_set old j (nearer_node node (taken.depth + 1) place number)) old → Lands q floor new
      fresh : IsNew old q → length old < capacity → new ≡ old ++ (new_node m capacity q (taken.depth + 1) place number floor ∷ []) → Lands q floor new

    -- what the move makes of the nodes, by its result, and by the bound of that
    abbrev Bounded : P → Option ℕ → List (Node P) → Type 0
    Bounded q (Some floor) new = Lands q floor new
    Bounded q None new = new ≡ old

    abbrev Leads : Option P → List (Node P) → Type 0
    Leads (Some q) new = Bounded q (m.lower_bound q) new
    Leads None new = new ≡ old

    alive_leads : (q : P) (floor : ℕ) (new : List (Node P)) → m.game.move taken.position number ≡ Some q → m.lower_bound q ≡ Some floor → Lands q floor new → Leads (m.game.move taken.position number) new
    alive_leads q floor new leads alive lands = subst (λ o. Leads o new) (sym leads) (subst (λ b. Bounded q b new) (sym alive) lands)

    move_leads : (new : List (Node P)) → MovePlayed m capacity place taken number old new → Leads (m.game.move taken.position number) new
    move_leads new (closed_move leads same) = subst (λ o. Leads o new) (sym leads) same
    move_leads new (dead_end q leads dead same) = subst (λ o. Leads o new) (sym leads) (subst (λ b. Bounded q b new) (sym dead) same)
    move_leads new (no_nearer q floor j node leads alive at is near same) =
        alive_leads q floor new leads alive (again j node at is (cond_above (taken.depth + 1) node.depth _ _ _ near same))
    move_leads new (nearer q floor j node leads alive at is far same) =
        alive_leads q floor new leads alive (again j node at is (same ∙ cond_below (taken.depth + 1) node.depth _ _ far))
    move_leads new (stored q floor leads unknown alive room same) = alive_leads q floor new leads alive (fresh unknown room same)

    module _ (apart : Apart old) (a b : List (Node P)) where
      lands_unique : (q : P) (floor : ℕ) → Lands q floor a → Lands q floor b → a ≡ b
      lands_unique q floor (again i x at is one) (again j y bt too other) =
          let places : i ≡ j = apart i j x y at bt (is ∙ sym too) in
          let nodes : x ≡ y = same_Some x y (sym at ∙ (ap (slice_get old) places ∙ bt)) in
          cc
      lands_unique q floor (again i x at is one) (fresh unknown room other) = absurd (unknown i x at is)
      lands_unique q floor (fresh unknown room one) (again j y bt too other) = absurd (unknown j y bt too)
      lands_unique q floor (fresh unknown room one) (fresh also free other) = one ∙ sym other

      bounded_unique : (q : P) (bound : Option ℕ) → Bounded q bound a → Bounded q bound b → a ≡ b
      bounded_unique q (Some floor) one other = lands_unique q floor one other
      bounded_unique q None one other = one ∙ sym other

      leads_unique : (o : Option P) → Leads o a → Leads o b → a ≡ b
      leads_unique (Some q) one other = bounded_unique q (m.lower_bound q) one other
      leads_unique None one other = one ∙ sym other

      move_unique : MovePlayed m capacity place taken number old a → MovePlayed m capacity place taken number old b → a ≡ b
      move_unique one other = leads_unique (m.game.move taken.position number) (move_leads a one) (move_leads b other)

    -- a move that finds the table full is not played
    no_room : Overflows m capacity place taken number old → (new : List (Node P)) → MovePlayed m capacity place taken number old new → ⊥
    no_room over new move = no_landing (subst (λ b. Bounded over.result b new) over.alive (subst (λ o. Leads o new) over.leads (move_leads new move)))
      where
        no_landing : Lands over.result over.floor new → ⊥
        no_landing (again j node at is same) = over.fresh j node at is
        no_landing (fresh unknown room same) = let full = over.full in absurd (omega arith)

  -- moves that are played one after another
  module _ (first : List (Node P)) (apart : (number : ℕ) (nodes : List (Node P)) → number ≤ m.game.count → MovesPlayed m capacity place taken first number nodes → Apart nodes) where
    moves_unique : (number : ℕ) → number ≤ m.game.count → (a b : List (Node P)) → MovesPlayed m capacity place taken first number a → MovesPlayed m capacity place taken first number b → a ≡ b
    moves_unique zero below a b none none = refl
    moves_unique (suc number) below a b (next {nodes = x} before one) (next {nodes = y} also other) =
        let same : x ≡ y = moves_unique number (omega arith) x y before also in
        move_unique number y (apart number y (omega arith) also) a b (subst (λ z. MovePlayed m capacity place taken number z a) same one) other

    -- no moves are played past one that finds the table full
    stops : (number : ℕ) (full : List (Node P)) → MovesPlayed m capacity place taken first number full → Overflows m capacity place taken number full
        → (more : ℕ) → more ≤ m.game.count → number < more → (nodes : List (Node P)) → MovesPlayed m capacity place taken first more nodes → ⊥
    stops number full moves over zero below further nodes none = absurd (omega arith)
    stops number full moves over (suc k) below further nodes (next {nodes = mid} before move) =
        by_number (cases_eq number k) (λ short. stops number full moves over k (omega arith) short mid before)
      where
        by_number : (number ≡ k) ⊎ (number ≡ k → ⊥) → (number < k → ⊥) → ⊥
        by_number (inl same) earlier =
            let mids : full ≡ mid = moves_unique k (omega arith) full mid (subst (λ n. MovesPlayed m capacity place taken first n full) same moves) before in
            no_room k mid (subst (λ n. Overflows m capacity place taken n mid) same (subst (λ z. Overflows m capacity place taken number z) mids over)) nodes move
        by_number (inr other) earlier = earlier (omega arith)

module _ {P : Type 0} (m : Meaning P) (capacity : ℕ) where
  goes_on_unique : (nodes : List (Node P)) (a b : Verdict) → GoesOn m capacity nodes a → GoesOn m capacity nodes b → a ≡ b
  goes_on_unique nodes a b (some_open i x at is_open one) (some_open j y bt also other) = one ∙ sym other
  goes_on_unique nodes a b (some_open i x at is_open one) (none_open shut other) = absurd (true≢false (sym is_open ∙ shut i x at))
  goes_on_unique nodes a b (none_open shut one) (some_open j y bt is_open other) = absurd (true≢false (sym is_open ∙ shut j y bt))
  goes_on_unique nodes a b (none_open shut one) (none_open too other) = one ∙ sym other

  module _ (old : State P) where
    -- a taken node is closed before its moves are played
    abbrev first : ℕ → Node P → List (Node P)
    first place node = slice_set old.nodes place (closed_node node)

    -- what a step makes of a taken node that is not finished
    data Plays (place : ℕ) (node : Node P) (new : State P) : Type 0 where
      all : (nodes : List (Node P)) (verdict : Verdict) → MovesPlayed m capacity place node (first place node) m.game.count nodes → GoesOn m capacity nodes verdict
          → new ≡ state nodes verdict (old.steps + 1) → Plays place node new
      some : (number : ℕ) (nodes : List (Node P)) → MovesPlayed m capacity place node (first place node) number nodes → number < m.game.count
          → Overflows m capacity place node number nodes → new ≡ state nodes TableFull (old.steps + 1) → Plays place node new

    abbrev Ends : ℕ → Node P → State P → Bool → Type 0
    Ends place node new true = new ≡ state old.nodes (Solved node.depth) (old.steps + 1)
    Ends place node new false = Plays place node new

    -- a step is one from a taken node
    record From (new : State P) : Type 0 where
      runs : old.verdict ≡ Running
      place : ℕ
      node : Node P
      taken : IsTaken old.nodes place node
      ends : Ends place node new (m.game.finished node.position)

    step_from : (new : State P) → Step m capacity old new → From new
    step_from new (finishes place node runs taken finished same) = record { runs = runs; place = place; node = node; taken = taken; ends = subst (λ f. Ends place node new f) (sym finished) same }
    step_from new (expands place node nodes verdict runs taken unfinished moves on same) =
        record { runs = runs; place = place; node = node; taken = taken; ends = subst (λ f. Ends place node new f) (sym unfinished) (all nodes verdict moves on same) }
    step_from new (overflows place number node nodes runs taken unfinished moves below over same) =
        record { runs = runs; place = place; node = node; taken = taken; ends = subst (λ f. Ends place node new f) (sym unfinished) (some number nodes moves below over same) }

    module _ (lawful : Lawful m) (honest : Honest m capacity old) (runs : old.verdict ≡ Running) (place : ℕ) (node : Node P) (taken : IsTaken old.nodes place node) (a b : State P) where
      apart : (number : ℕ) (nodes : List (Node P)) → number ≤ m.game.count → MovesPlayed m capacity place node (first place node) number nodes → Apart nodes
      apart number nodes below moves = (played m capacity lawful old honest runs place node taken number nodes below moves).sound.apart

      plays_unique : Plays place node a → Plays place node b → a ≡ b
      plays_unique (all x v moves on one) (all y w others goes other) =
          let nodes : x ≡ y = moves_unique m capacity place node (first place node) apart m.game.count (omega arith) x y moves others in
          let verdicts : v ≡ w = goes_on_unique y v w (subst (λ z. GoesOn m capacity z v) nodes on) goes in
          cc
      plays_unique (all x v moves on one) (some number y others below over other) = absurd (stops m capacity place node (first place node) apart number y others over m.game.count (omega arith) below x moves)
      plays_unique (some number x moves below over one) (all y w others goes other) = absurd (stops m capacity place node (first place node) apart number x moves over m.game.count (omega arith) below y others)
      plays_unique (some number x moves below over one) (some k y others low full other) = by_order (cases_order number k)
        where
          by_order : (number ≡ k) ⊎ ((number < k) ⊎ (k < number)) → a ≡ b
          by_order (inl same) =
              let nodes : x ≡ y = moves_unique m capacity place node (first place node) apart k (omega arith) x y (subst (λ n. MovesPlayed m capacity place node (first place node) n x) same moves) others in
              cc
          by_order (inr (inl earlier)) = absurd (stops m capacity place node (first place node) apart number x moves over k (omega arith) earlier y others)
          by_order (inr (inr later)) = absurd (stops m capacity place node (first place node) apart k y others full number (omega arith) later x moves)

      ends_unique : (finished : Bool) → Ends place node a finished → Ends place node b finished → a ≡ b
      ends_unique true one other = one ∙ sym other
      ends_unique false one other = plays_unique one other

  pub step_unique : Lawful m → (old : State P) → Honest m capacity old → (a b : State P) → Step m capacity old a → Step m capacity old b → a ≡ b
  step_unique lawful old honest a b one other =
      let x = step_from old a one in
      let y = step_from old b other in
      let places : y.place ≡ x.place = taken_once old.nodes y.place x.place y.node x.node y.taken x.taken in
      let nodes : y.node ≡ x.node = same_Some y.node x.node (sym y.taken.there ∙ (ap (slice_get old.nodes) places ∙ x.taken.there)) in
      ends_unique old lawful honest x.runs x.place x.node x.taken a b (m.game.finished x.node.position) x.ends
      (subst (λ n. Ends old x.place n b (m.game.finished n.position)) nodes (subst (λ k. Ends old k y.node b (m.game.finished y.node.position)) places y.ends))
