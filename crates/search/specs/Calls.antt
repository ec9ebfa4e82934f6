-- What the calls of a search do, said of what it holds. Assumes nothing.
use Rattle.std.specs.Prelude.{◌≡◌, ℕ, List, [], Result, IfOk}
use Rattle.refusals.specs.declared.Fault.{Fault}
use Rattle.puzzle.specs.Meaning.{Meaning}
use Rattle.search_theory.specs.declared.Advance.{Advance}
use Rattle.search_theory.specs.Calls.{AllCallsFor, Advances, AdvanceInvariant, Recites}
use Rattle.search.specs.Contents.{Contents, search_of}

-- an advance, whatever puzzle it is handed
abbrev pub AlwaysAdvances : {P : Type 0} → ℕ → Contents P → Result Advance Fault → Contents P → Type 0
AlwaysAdvances budget old result new = IfOk result (λ answer. AdvanceInvariant budget (search_of old) answer (search_of new))

-- no call was made yet, so that all were for whichever puzzle
abbrev pub IsUncalled : {P : Type 0} → Contents P → Type 0
IsUncalled {P} c = (m : Meaning P) → (all_calls : AllCallsFor m (search_of c)) × (all_calls.calls ≡ [])

-- the puzzle is the one that all calls so far were for
module _ {P : Type 0} (m : Meaning P) where
  abbrev pub AdvancesFor : ℕ → Contents P → Result Advance Fault → Contents P → Type 0
  AdvancesFor budget old result new = AllCallsFor m (search_of old) → Advances m budget (search_of old) result (search_of new)

  abbrev pub RecitesFor : Contents P → List ℕ → Result ℕ Fault → List ℕ → Type 0
  RecitesFor c before result after = AllCallsFor m (search_of c) → Recites m (search_of c) before result after
