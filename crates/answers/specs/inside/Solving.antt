-- What is known once a puzzle was searched. Assumes nothing.
use Rattle.std.specs.Prelude.{◌≡◌, ℕ, List}
use Rattle.puzzle.specs.Meaning.{Meaning}
use Rattle.search_theory.specs.declared.Verdict.{Verdict}
use Rattle.search_theory.specs.declared.Verdict.TheVariants.{Running, Solved, Unsolvable, TableFull}
use Rattle.search_theory.specs.Steps.{State}
use Rattle.search_theory.specs.Calls.{RecitesWay}
use Rattle.search_theory.specs.Promise.{Says}
use Rattle.answers.specs.Answers.{places, Ends}

module _ {P : Type 0} (m : Meaning P) where
  -- what a final verdict leaves in the list that moves are written in
  abbrev pub Leaves : Verdict → List ℕ → List ℕ → Type 0
  Leaves (Solved n) old new = RecitesWay m n old new
  Leaves Unsolvable old new = Unit {0}
  Leaves TableFull old new = Unit {0}
  Leaves Running old new = ⊥

  -- the search ended with this verdict
  pub record Finds (verdict : Verdict) (old new : List ℕ) : Type 0 where
    pub last : State P
    pub ends : Ends m last
    pub only : (other : State P) → Ends m other → other ≡ last
    pub verdict_is : last.verdict ≡ verdict
    pub means : Says m places verdict
    pub leaves : Leaves verdict old new
