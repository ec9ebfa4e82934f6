-- The moves of a solution, written from the last to the first. Assumes nothing.
use Rattle.std.proofs.Common.{◌≡◌, refl, sym, ap, subst, ◌∙◌, arith, ℕ, suc, ◌+◌, ◌/◌, ◌%◌, ◌<◌, List, [], ◌∷◌, ◌++◌, length, take, drop, set, get_or, slice_get, Some, append_assoc, append-nil, length-append, length-take}
use Rattle.std.proofs.Math.Seq.{take-suc, set-append_seam}
use Rattle.std.proofs.lemmas.List.{take-append-drop}
use Rattle.std.proofs.lemmas.Option.{get_or_from_slice_get}
use Rattle.puzzle.specs.Game.{Finishes}
use Rattle.puzzle.specs.Meaning.{Meaning}
use Rattle.open_list.specs.Entries.{Entry}
use Rattle.search_theory.specs.Nodes.{Node}
use Rattle.search_theory.specs.inside.Invariants.{Leads, start, link, LinkedWay}
use Rattle.search.specs.Contents.{nodes_from}
use Rattle.search.proofs.Nodes.{node_parts}

-- a list whose last moves are written already
abbrev pub written : ℕ → ℕ → List ℕ → List ℕ → List ℕ
written left count rest old = take left old ++ (rest ++ drop count old)

written_more : (old : List ℕ) (left count x : ℕ) (rest : List ℕ) → left < length old → set (written (suc left) count rest old) left x ≡ written left count (x ∷ rest) old
written_more old left count x rest inside =
    let front : length (take left old) ≡ left = omega (arith, length-take left old) in
    ap (λ xs. set (xs ++ (rest ++ drop count old)) left x) (take-suc old left 0 inside)
    ∙ ap (λ xs. set xs left x) (append_assoc (take left old) (get_or old left 0 ∷ []) (rest ++ drop count old))
    ∙ ap (λ i. set (take left old ++ (get_or old left 0 ∷ (rest ++ drop count old))) i x) (sym front)
    ∙ set-append_seam (take left old) (get_or old left 0) (rest ++ drop count old) x

module _ {P : Type 0} (m : Meaning P) where
  -- the links lead from the place to the moves that are left, and the rest is written
  pub record Reciting (nodes : List (Node P)) (place left count : ℕ) (old now : List ℕ) : Type 0 where
    pub before : List ℕ
    pub rest : List ℕ
    pub leads : Leads nodes place before
    pub left_is : length before ≡ left
    pub count_is : length before + length rest ≡ count
    pub finish : Finishes m.game m.game.start (before ++ rest)
    pub written_is : now ≡ written left count rest old

  pub reciting_begins : (nodes : List (Node P)) (place count : ℕ) (old : List ℕ) → LinkedWay m nodes count place → Reciting nodes place count count old old
  reciting_begins nodes place count old found = record {
    before = found.moves;
    rest = [];
    leads = found.leads;
    left_is = found.count;
    count_is = (let count = found.count in omega arith);
    finish = subst (Finishes m.game m.game.start) (sym (append-nil found.moves)) found.finish;
    written_is = sym (take-append-drop count old);
  }

  -- one link back
  module _ (ps : List P) (es : List Entry) (ks ls : List ℕ) (place left count : ℕ) (old now : List ℕ) (parent number : ℕ) (inside : left < length old)
      (parent_is : parent ≡ get_or ls place 0 / 256) (number_is : number ≡ get_or ls place 0 % 256) (r : Reciting (nodes_from ps es ks ls) place (suc left) count old now) where
    linked : (node : Node P) (before : List ℕ) → slice_get (nodes_from ps es ks ls) place ≡ Some node → Leads (nodes_from ps es ks ls) node.parent before → r.before ≡ before ++ (node.move ∷ [])
        → Reciting (nodes_from ps es ks ls) parent left count old (set now left number)
    linked node before at leads is =
        let h = node_parts ps es ks ls place node at in
        let link = get_or_from_slice_get ls place h.link 0 h.link_is in
        let parents : node.parent ≡ parent = ap (λ (x : Node P). x.parent) h.node_is ∙ ap (λ l. l / 256) (sym link) ∙ sym parent_is in
        let moves : node.move ≡ number = ap (λ (x : Node P). x.move) h.node_is ∙ ap (λ l. l % 256) (sym link) ∙ sym number_is in
        let all : r.before ≡ before ++ (number ∷ []) = is ∙ ap (λ x. before ++ (x ∷ [])) moves in
        let size : length r.before ≡ length before + 1 = ap length all ∙ length-append before (number ∷ []) in
        let left_is = r.left_is in
        let count_is = r.count_is in
        record {
          before = before;
          rest = number ∷ r.rest;
          leads = subst (λ k. Leads (nodes_from ps es ks ls) k before) parents leads;
          left_is = omega arith;
          count_is = omega arith;
          finish = subst (Finishes m.game m.game.start) (ap (λ xs. xs ++ r.rest) all ∙ append_assoc before (number ∷ []) r.rest) r.finish;
          written_is = ap (λ xs. set xs left number) r.written_is ∙ written_more old left count number r.rest inside;
        }

    by_leads : (moves : List ℕ) → r.before ≡ moves → Leads (nodes_from ps es ks ls) place moves → Reciting (nodes_from ps es ks ls) parent left count old (set now left number)
    by_leads moves same (start none) = (let left_is = r.left_is in let size : length r.before ≡ 0 = ap length (same ∙ none) in absurd (omega arith))
    by_leads moves same (link node before at leads is) = linked node before at leads (same ∙ is)

    pub reciting_more : Reciting (nodes_from ps es ks ls) parent left count old (set now left number)
    reciting_more = by_leads r.before refl r.leads
