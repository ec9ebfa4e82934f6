-- A position is looked up by its key, from the last place to the first. Assumes nothing.
use Rattle.std.proofs.Common.{◌≡◌, ◌≢◌, sym, ap, subst, ◌∙◌, inl, inr, ◌⊎◌, arith, ℕ, suc, ◌<◌, ◌≤◌, Bool, true, false, List, length, slice_get, Some, None, Option, IfSome}
use Rattle.std.proofs.lemmas.Option.{slice_get_within}
use Rattle.std.proofs.lemmas.Bool.{cases_lt}
use Rattle.puzzle.specs.Game.{Reached}
use Rattle.puzzle.specs.Meaning.{Meaning, Lawful}
use Rattle.open_list.specs.Entries.{Entry}
use Rattle.hash_index.specs.Index.{IsLast, IsEarlier}
use Rattle.search_theory.specs.Nodes.{Node, IsNew}
use Rattle.search_theory.specs.inside.Invariants.{NodeInvariant}
use Rattle.search.specs.Contents.{nodes_from}
use Rattle.search.specs.inside.Parts.{SameAt}
use Rattle.search.proofs.Nodes.{node_parts}

-- one more than the place, or none
abbrev pub places_left : Option ℕ → ℕ
places_left (Some place) = suc place
places_left None = 0

-- the candidate has the key
abbrev pub HasKey : List ℕ → ℕ → Option ℕ → Type 0
HasKey ks key o = IfSome o (λ place. slice_get ks place ≡ Some key)

pub key_at : (ks : List ℕ) (key : ℕ) (o : Option ℕ) (place : ℕ) → HasKey ks key o → o ≡ Some place → slice_get ks place ≡ Some key
key_at ks key o place h is = subst (HasKey ks key) is h

pub last_has_key : (ks : List ℕ) (n key : ℕ) (o : Option ℕ) → IsLast ks n key o → HasKey ks key o
last_has_key ks n key (Some place) h = h.1
last_has_key ks n key None h = tt

-- the earlier one is the last below
pub earlier_last : (ks : List ℕ) (place key : ℕ) (o : Option ℕ) → slice_get ks place ≡ Some key → IsEarlier ks place (slice_get ks place) o → IsLast ks place key o
earlier_last ks place key o is h = subst (λ x. IsEarlier ks place x o) is h

pub last_fewer : (ks : List ℕ) (n key : ℕ) (o : Option ℕ) → IsLast ks n key o → places_left o < suc n
last_fewer ks n key (Some place) h = (let below = h.0 in omega arith)
last_fewer ks n key None h = omega arith

module _ {P : Type 0} (m : Meaning P) (ps : List P) (es : List Entry) (ks ls : List ℕ) (p : P) where
  -- no node after the candidate holds the position
  abbrev pub Left : Option ℕ → Type 0
  Left (Some place) = (j : ℕ) (node : Node P) → slice_get (nodes_from ps es ks ls) j ≡ Some node → node.position ≡ p → j ≤ place
  Left None = IsNew (nodes_from ps es ks ls) p

  module _ (known : NodeInvariant m (nodes_from ps es ks ls)) (key : ℕ) (key_is : key ≡ m.key p) where
    -- a node that holds it has the key
    its_key : (j : ℕ) (node : Node P) → slice_get (nodes_from ps es ks ls) j ≡ Some node → node.position ≡ p → slice_get ks j ≡ Some key
    its_key j node at holds =
        let h = node_parts ps es ks ls j node at in
        let a = known.key j node at in
        let b = h.node_is in
        h.key_is ∙ ap Some (sym (ap (λ (x : Node P). x.key) b) ∙ a ∙ ap m.key holds ∙ sym key_is)

    left_from : (n : ℕ) (o : Option ℕ) → IsLast ks n key o → ((j : ℕ) (node : Node P) → slice_get (nodes_from ps es ks ls) j ≡ Some node → node.position ≡ p → j < n) → Left o
    left_from n (Some place) last below = λ j node at holds. not_later j (its_key j node at holds) (below j node at holds) (cases_lt place j)
      where
        not_later : (j : ℕ) → slice_get ks j ≡ Some key → j < n → (place < j) ⊎ (j ≤ place) → j ≤ place
        not_later j has inside (inl later) = absurd (last.2 j later inside has)
        not_later j has inside (inr no_later) = no_later
    left_from n None last below = λ j node at holds. last j (below j node at holds) (its_key j node at holds)

    pub left_at : (o : Option ℕ) (place : ℕ) → Left o → o ≡ Some place → Left (Some place)
    left_at o place h is = subst Left is h

    pub left_none : (o : Option ℕ) → Left o → o ≡ None → IsNew (nodes_from ps es ks ls) p
    left_none o h is = subst Left is h

    pub left_first : (o : Option ℕ) → IsLast ks (length ks) key o → Left o
    left_first o last = left_from (length ks) o last (λ j node at holds. slice_get_within ks j key (its_key j node at holds))

    pub left_next : (place : ℕ) (o : Option ℕ) → Left (Some place) → IsLast ks place key o → ((node : Node P) → slice_get (nodes_from ps es ks ls) place ≡ Some node → node.position ≡ p → ⊥) → Left o
    left_next place o left last other =
        left_from place o last (λ j node at holds. (let no_later = left j node at holds in let apart : j ≢ place = λ same. other node (subst (λ k. slice_get (nodes_from ps es ks ls) k ≡ Some node) same at) holds in omega arith))

  -- whether the table's position at a place is the one, by the puzzle's comparison
  module _ (lawful : Lawful m) (known : NodeInvariant m (nodes_from ps es ks ls)) (reached : Reached m.game p) (place : ℕ) (is : Bool) (same : SameAt m ps place p is) where
    tells : (node : Node P) → slice_get (nodes_from ps es ks ls) place ≡ Some node → is ≡ m.same node.position p
    tells node at =
        let h = node_parts ps es ks ls place node at in
        let position : node.position ≡ h.position = ap (λ (x : Node P). x.position) h.node_is in
        same node.position (h.position_is ∙ ap Some (sym position)) (known.reached place node at) reached

    pub holds_it : is ≡ true → (node : Node P) → slice_get (nodes_from ps es ks ls) place ≡ Some node → node.position ≡ p
    holds_it alike node at = (lawful.alike node.position p (known.reached place node at) reached).0 (sym (tells node at) ∙ alike)

    pub holds_other : is ≡ false → (node : Node P) → slice_get (nodes_from ps es ks ls) place ≡ Some node → node.position ≡ p → ⊥
    holds_other unlike node at holds =
        let yes = (lawful.alike node.position p (known.reached place node at) reached).1 holds in
        let told = tells node at in
        absurd (cc)
