-- The node that comes first, by the entry that does. Assumes nothing.
use Rattle.std.proofs.Common.{◌≡◌, refl, sym, ap, subst, ◌∙◌, arith, ℕ, ◌≤◌, Bool, true, false, not, cond, List, length, set, slice_get, Some, None, Option}
use Rattle.std.proofs.lemmas.Option.{slice_get_within, same_Some}
use Rattle.std.proofs.lemmas.Bool.{true≢false}
use Rattle.std.specs.Option.{is_some, unwrap_or}
use Rattle.puzzle.specs.Meaning.{Meaning}
use Rattle.open_list.specs.Entries as entries
use Rattle.open_list.specs.Entries.{Entry, Foremost, IsFirst}
use Rattle.open_list.specs.OpenList.{Queue, Closes}
use Rattle.search_theory.specs.Nodes.{Node, closed_node, Before, IsTaken, NoneOpen}
use Rattle.search_theory.specs.inside.Invariants.{LinkedWay}
use Rattle.search_theory.specs.Steps.{GoesOn, some_open, none_open}
use Rattle.search_theory.specs.declared.Verdict.{Verdict}
use Rattle.search_theory.specs.declared.Verdict.TheVariants.{Running, Unsolvable}
use Rattle.search.specs.Contents.{node_of, nodes_from}
use Rattle.search.proofs.Nodes.{some_there, node_parts, nodes_entry}
use Rattle.search.proofs.Relaxing.{there, its_entry}

-- only one open entry comes first
one_front : (es : List Entry) (i j : ℕ) → Foremost es i → Foremost es j → i ≡ j
one_front es i j a b =
    let ab = a.first j b.here b.there b.is_open in
    let ba = b.first i a.here a.there a.is_open in
    let one = ab.lesser in
    let two = ba.lesser in
    let same : entries.sum a.here ≡ entries.sum b.here = omega arith in
    let three = ab.deeper same in
    let four = ba.deeper (sym same) in
    let deep : a.here.depth ≡ b.here.depth = omega arith in
    let five = ab.earlier same deep in
    let six = ba.earlier (sym same) (sym deep) in
    omega arith

-- the place that is closed is the one that came first
pub closed_front : (old new : Queue) (place : ℕ) (o : Option ℕ) → Foremost old.entries place → IsFirst old.entries o → Closes old o new → Closes old (Some place) new
closed_front old new place (Some i) front first shut = subst (λ k. Closes old (Some k) new) (one_front old.entries i place first front) shut
closed_front old new place None front first shut = absurd (true≢false (sym front.is_open ∙ first place front.here front.there))

module _ {P : Type 0} (ps : List P) (es : List Entry) (ks ls : List ℕ) where
  pub none_open_as : entries.NoneOpen es → NoneOpen (nodes_from ps es ks ls)
  none_open_as shut j node at =
      let h = node_parts ps es ks ls j node at in
      ap (λ (x : Node P). x.is_open) h.node_is ∙ shut j h.entry h.entry_is

  -- the node at the place that comes first
  pub record Front (place : ℕ) (depth : ℕ) (p : P) : Type 0 where
    pub node : Node P
    pub at : slice_get (nodes_from ps es ks ls) place ≡ Some node
    pub is_open : node.is_open ≡ true
    pub taken : IsTaken (nodes_from ps es ks ls) place node
    pub depth_is : node.depth ≡ depth
    pub position_is : node.position ≡ p
    pub closing : (e : Entry) → slice_get es place ≡ Some e → nodes_from ps (set es place (entries.closed_entry e)) ks ls ≡ set (nodes_from ps es ks ls) place (closed_node node)

  module _ (keyed : length ks ≡ length es) (deep : length es ≤ length ps) (linked : length es ≤ length ls) (place : ℕ) (first : Foremost es place) where
    before_as : (node other : Node P) (e f : Entry) (j : ℕ) → node.depth ≡ e.depth → node.floor ≡ e.floor → other.depth ≡ f.depth → other.floor ≡ f.floor → entries.Before e place f j → Before node place other j
    before_as node other e f j a b c d before = record {
      lesser = (let less = before.lesser in omega arith);
      deeper = λ same. (let deeper = before.deeper (omega arith) in omega arith);
      earlier = λ same level. before.earlier (omega arith) (omega arith);
    }

    taken_first : (node : Node P) → slice_get (nodes_from ps es ks ls) place ≡ Some node → IsTaken (nodes_from ps es ks ls) place node
    taken_first node at =
        let mine = its_entry ps es ks ls keyed deep linked place node first.here at first.there in
        record {
          there = at;
          is_open = mine.2 ∙ first.is_open;
          first = λ j other other_at other_open.
              let h = node_parts ps es ks ls j other other_at in
              let its = its_entry ps es ks ls keyed deep linked j other h.entry other_at h.entry_is in
              before_as node other first.here h.entry j mine.0 mine.1 its.0 its.1 (first.first j h.entry h.entry_is (sym its.2 ∙ other_open));
        }

    closing_as : (node : Node P) → slice_get (nodes_from ps es ks ls) place ≡ Some node → (e : Entry) → slice_get es place ≡ Some e → nodes_from ps (set es place (entries.closed_entry e)) ks ls ≡ set (nodes_from ps es ks ls) place (closed_node node)
    closing_as node at e is =
        let h = node_parts ps es ks ls place node at in
        let same : h.entry ≡ e = same_Some h.entry e (sym h.entry_is ∙ is) in
        nodes_entry ps es ks ls place h.position h.key (entries.closed_entry e) h.link h.position_is h.key_is h.link_is
        ∙ ap (set (nodes_from ps es ks ls) place) (ap (λ x. node_of h.position (entries.closed_entry x) h.key h.link) (sym same) ∙ ap closed_node (sym h.node_is))

    pub front : (p : P) → slice_get ps place ≡ Some p → Front place first.here.depth p
    front p stands =
        let found = there ps es ks ls keyed deep linked place (slice_get_within es place first.here first.there) in
        let mine = its_entry ps es ks ls keyed deep linked place found.0 first.here found.1 first.there in
        let h = node_parts ps es ks ls place found.0 found.1 in
        record {
          node = found.0;
          at = found.1;
          is_open = mine.2 ∙ first.is_open;
          taken = taken_first found.0 found.1;
          depth_is = mine.0;
          position_is = ap (λ (x : Node P). x.position) h.node_is ∙ same_Some h.position p (sym h.position_is ∙ stands);
          closing = closing_as found.0 found.1;
        }

    -- the search goes on where some entry comes first
    pub goes_on : (m : Meaning P) (capacity : ℕ) (p : P) → slice_get ps place ≡ Some p → GoesOn m capacity (nodes_from ps es ks ls) Running
    goes_on m capacity p stands = (let f = front p stands in some_open place f.node f.at f.is_open refl)

module _ {P : Type 0} (m : Meaning P) (capacity : ℕ) (ps : List P) (es : List Entry) (ks ls : List ℕ) (keyed : length ks ≡ length es) (deep : length es ≤ length ps) (linked : length es ≤ length ls) where
  -- the verdict after a step, by whether an entry comes first
  pub goes_by : (o : Option ℕ) (none : Bool) (verdict : Verdict) → IsFirst es o → is_some o ≡ not none → verdict ≡ cond none Unsolvable Running → GoesOn m capacity (nodes_from ps es ks ls) verdict
  goes_by (Some place) false verdict first test is =
      let p = some_there ps place (let inside = slice_get_within es place first.here first.there in omega arith) in
      subst (GoesOn m capacity (nodes_from ps es ks ls)) (sym is) (goes_on ps es ks ls keyed deep linked place first m capacity p.0 p.1)
  goes_by None true verdict first test is = none_open (none_open_as ps es ks ls first) is
  goes_by (Some place) true verdict first test is = absurd (true≢false test)
  goes_by None false verdict first test is = absurd (true≢false (sym test))

  -- what is told of every node that is taken is told of the place that comes first
  pub found_first : (n place : ℕ) (o : Option ℕ) → IsFirst es o → place ≡ unwrap_or o 0 → (NoneOpen (nodes_from ps es ks ls) → ⊥)
      → ((i : ℕ) (node : Node P) → IsTaken (nodes_from ps es ks ls) i node → LinkedWay m (nodes_from ps es ks ls) n i) → LinkedWay m (nodes_from ps es ks ls) n place
  found_first n place (Some i) first is some found =
      let p = some_there ps i (let inside = slice_get_within es i first.here first.there in omega arith) in
      let f = front ps es ks ls keyed deep linked i first p.0 p.1 in
      subst (λ k. LinkedWay m (nodes_from ps es ks ls) n k) (sym is) (found i f.node f.taken)
  found_first n place None first is some found = absurd (some (none_open_as ps es ks ls first))
