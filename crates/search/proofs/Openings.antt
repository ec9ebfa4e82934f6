-- How a search opens. Assumes nothing.
use Rattle.std.proofs.Common.{◌≡◌, refl, sym, ap, ◌∙◌, ℕ, ◌*◌, ◌<◌, ◌≤◌, Bool, true, false, cond, ◌==◌, nat_lt, nat_le, List, [], ◌∷◌, ◌++◌, length, Some, None}
use Rattle.std.proofs.lemmas.Bool.{le-leb, lt-ltb, eq-eqb, true≢false}
use Rattle.std.proofs.lemmas.Option.{same_Some, none-some}
use Rattle.puzzle.specs.Meaning.{Meaning}
use Rattle.open_list.specs.Entries.{entry}
use Rattle.open_list.specs.OpenList as open_list
use Rattle.hash_index.specs.Index as index
use Rattle.search_theory.specs.declared.Verdict.TheVariants.{Running, Unsolvable}
use Rattle.search_theory.specs.Steps.{State, state, new_node, first_state}
use Rattle.search_theory.specs.Calls.{Search, with_state, open_refusal}
use Rattle.search_theory.proofs.Invariants.{first_state_cases}
use Rattle.search.specs.Contents.{Contents, node_of, nodes_of, numbers_of, search_of}
use Rattle.search.specs.inside.Memory.{link_of}
use Rattle.search.specs.inside.Parts.{Stores}

module _ {P : Type 0} where
  -- a search that is opened, as its calls see it
  pub search_as : (c : Contents P) (s : Search P) (t : State P) → length c.table ≡ s.places → numbers_of c ≡ s.numbers → c.opened ≡ true → state (nodes_of c) c.verdict c.steps ≡ t
      → search_of c ≡ with_state s t
  search_as c s t places numbers opened is =
      ap (λ b. record { places = length c.table; numbers = numbers_of c; state = cond b (Some (state (nodes_of c) c.verdict c.steps)) None }) opened
      ∙ ap (λ x. record { places = length c.table; numbers = numbers_of c; state = Some x }) is
      ∙ ap (λ n. record { places = n; numbers = numbers_of c; state = Some t }) places
      ∙ ap (λ n. record { places = s.places; numbers = n; state = Some t }) numbers

  pub state_as : (c : Contents P) → c.opened ≡ true → (search_of c).state ≡ Some (state (nodes_of c) c.verdict c.steps)
  state_as c opened = ap (λ b. cond b (Some (state (nodes_of c) c.verdict c.steps)) None) opened

  pub may_open : (s : Search P) → 1 ≤ s.places → s.places ≤ 1048576 → s.numbers ≡ 8 * s.places → s.state ≡ None → open_refusal s ≡ None
  may_open s some few eight unused =
      let a : nat_le 1 s.places ≡ true = le-leb 1 s.places some in
      let b : nat_le s.places 1048576 ≡ true = le-leb s.places 1048576 few in
      let e : (s.numbers == 8 * s.places) ≡ true = eq-eqb s.numbers (8 * s.places) eight in
      rw (a, b, e, unused) refl

  module _ (m : Meaning P) (capacity : ℕ) where
    -- a dead start
    pub dead_first_state : m.lower_bound m.game.start ≡ None → first_state m capacity ≡ state [] Unsolvable 0
    dead_first_state is = first_state_cases m capacity (λ t. t ≡ state [] Unsolvable 0) (λ floor alive. absurd (none-some floor (sym is ∙ alive))) (λ dead. refl)

    pub alive_first_state : (old new : Contents P) (room : Bool) (p : P) (key floor : ℕ) → nodes_of old ≡ [] → 0 < old.open_list.capacity → old.steps ≡ 0 → old.verdict ≡ Running
        → room ≡ nat_lt (length (nodes_of old)) old.open_list.capacity → Stores (node_of p (entry 0 floor true) key (link_of 0 0)) old room new → p ≡ m.game.start → key ≡ m.key p
        → m.lower_bound m.game.start ≡ Some floor → state (nodes_of new) new.verdict new.steps ≡ first_state m capacity
    alive_first_state old new true p key floor empty some zero runs room after start keyed alive =
        let node : node_of p (entry 0 floor true) key (link_of 0 0) ≡ new_node m capacity m.game.start 0 0 0 floor = cc in
        let nodes : nodes_of new ≡ new_node m capacity m.game.start 0 0 0 floor ∷ [] = after.0 ∙ ap (λ ns. ns ++ (node_of p (entry 0 floor true) key (link_of 0 0) ∷ [])) empty ∙ ap (λ n. n ∷ []) node in
        ap (λ ns. state ns new.verdict new.steps) nodes
        ∙ ap (λ v. state (new_node m capacity m.game.start 0 0 0 floor ∷ []) v new.steps) (after.1.verdict ∙ runs)
        ∙ ap (λ k. state (new_node m capacity m.game.start 0 0 0 floor ∷ []) Running k) (after.1.steps ∙ zero)
        ∙ first_state_cases m capacity (λ t. state (new_node m capacity m.game.start 0 0 0 floor ∷ []) Running 0 ≡ t)
        (λ other is. ap (λ f. state (new_node m capacity m.game.start 0 0 0 f ∷ []) Running 0) (same_Some floor other (sym alive ∙ is)))
        (λ dead. absurd (none-some floor (sym dead ∙ alive)))
    alive_first_state old new false p key floor empty some zero runs room after start keyed alive =
        absurd (true≢false (sym (lt-ltb (length (nodes_of old)) old.open_list.capacity (rw empty some)) ∙ sym room))

-- the parts of the list are as long as they have to be
pub open_list_fits : (places : ℕ) (numbers : List ℕ) → places ≤ 1048576 → length numbers ≡ 4 * places → open_list.fits places numbers ≡ true
open_list_fits places numbers few size =
    let a : nat_le places 1048576 ≡ true = le-leb places 1048576 few in
    let b : (length numbers == 4 * places) ≡ true = eq-eqb (length numbers) (4 * places) size in
    rw (a, b) refl

pub index_fits : (places : ℕ) (numbers : List ℕ) → places ≤ 1048576 → length numbers ≡ 3 * places → index.fits places numbers ≡ true
index_fits places numbers few size =
    let a : nat_le places 1048576 ≡ true = le-leb places 1048576 few in
    let b : (length numbers == 3 * places) ≡ true = eq-eqb (length numbers) (3 * places) size in
    rw (a, b) refl
