-- What a step comes to once its moves were played. Assumes nothing.
use Rattle.std.proofs.Common.{◌≡◌, refl, sym, ap, subst, ◌∙◌, ℕ, ◌+◌, true, false, List, set, slice_get, Some}
use Rattle.puzzle.specs.Meaning.{Meaning}
use Rattle.search_theory.specs.declared.Verdict.{Verdict}
use Rattle.search_theory.specs.declared.Verdict.TheVariants.{Running, TableFull}
use Rattle.search_theory.specs.Nodes.{Node, closed_node, IsTaken}
use Rattle.search_theory.specs.Steps.{State, state, MovesPlayed, GoesOn, Step, expands, overflows}
use Rattle.search_theory.proofs.Places.{put_set}
use Rattle.search.specs.Contents.{Contents, nodes_of}
use Rattle.search.specs.inside.Parts.{PlaysAllOrOverflows}

-- the same step, told by what its end is equal to
pub step_result : {P : Type 0} (m : Meaning P) (capacity : ℕ) (old : State P) (ns ms : List (Node P)) (v w : Verdict) (k l : ℕ) → ns ≡ ms → v ≡ w → k ≡ l → Step m capacity old (state ms w l) → Step m capacity old (state ns v k)
step_result {P} m capacity old ns ms v w k l a b d step =
    subst (Step m capacity old) (ap (λ x. state x w l) (sym a) ∙ ap (λ x. state ns x l) (sym b) ∙ ap (λ x. state ns v x) (sym d)) step

module _ {P : Type 0} (m : Meaning P) (capacity : ℕ) (nodes : List (Node P)) (verdict : Verdict) (steps : ℕ) (runs : verdict ≡ Running) (place : ℕ) (node : Node P) (taken : IsTaken nodes place node)
    (unfinished : m.game.finished node.position ≡ false) (mid new : Contents P) (shut : nodes_of mid ≡ set nodes place (closed_node node)) where
  -- one of the moves found no room
  pub step_stuck : PlaysAllOrOverflows m capacity place node mid false new → Step m capacity (state nodes verdict steps) (state (nodes_of new) TableFull (steps + 1))
  step_stuck h =
      overflows place h.0 node (nodes_of new) runs taken unfinished (subst (λ ns. MovesPlayed m capacity place node ns h.0 (nodes_of new)) shut h.2) h.1 h.3 refl

  -- all of them were played
  pub step_went : PlaysAllOrOverflows m capacity place node mid true new → (next : Verdict) → GoesOn m capacity (nodes_of new) next → Step m capacity (state nodes verdict steps) (state (nodes_of new) next (steps + 1))
  step_went h next on =
      expands place node (nodes_of new) next runs taken unfinished (subst (λ ns. MovesPlayed m capacity place node ns m.game.count (nodes_of new)) shut h) on refl

  pub at_place : slice_get (nodes_of mid) place ≡ Some (closed_node node)
  at_place = rw shut (put_set nodes place node (closed_node node) taken.there).here
