-- Testing a block, placement by placement. Assumes nothing.
use Rattle.std.proofs.Common.{◌≡◌, ℕ, ◌+◌, ◌^◌, ◌<◌, ◌≤◌, Bool, List, length, Decides, refl, sym, ◌∙◌, subst, ⊎_elim, arith}
use Rattle.std.proofs.lemmas.Bool.{cases_lt}
use Rattle.std.proofs.lemmas.Bool.Decides.{Decides-like}
use Rattle.atoms.specs.Level.{Atoms}
use Rattle.pattern_databases.specs.Floor.{free_count}
use Rattle.pattern_databases.specs.PartMoves.{Stands}
use Rattle.pattern_databases.specs.Layout.{placement_number}
use Rattle.pattern_databases.specs.declared.condition.Condition.{Condition}
use Rattle.pattern_databases.specs.declared.condition.Condition.TheVariants.{Goals, Meetings, Moves}
use Rattle.pattern_databases.specs.inside.Blocks.{ByteFor, local, IsConsistent, MeetsAt, Meets}
use Rattle.pattern_databases.proofs.Placements.{number_one}
use Rattle.pattern_databases.proofs.Bytes.{all_stand, byte_there}

module _ (l : Atoms) (place : ℕ) (part entries cells : List ℕ) where
  -- a test of two bytes decides whether a move between their placements is consistent
  pub consistent_decides : (next : List ℕ) (before after : ℕ) (result : Bool)
      → before ≡ local l place part entries cells → after ≡ local l place part entries next
      → Decides result ((before ≤ after + 1) × (before ≡ 255 → after ≡ 255))
      → Decides result (IsConsistent l place part entries cells next)
  consistent_decides next before after result here there decides =
      Decides-like result
      (λ may. (omega (arith, may.0, here, there), λ none. sym there ∙ may.1 (here ∙ none)))
      (λ is. (omega (arith, is.0, here, there), λ none. there ∙ is.1 (sym here ∙ none)))
      decides

module _ (l : Atoms) (place : ℕ) (part entries : List ℕ) where
  -- a condition that is met wherever atoms stand on free cells is met
  met_everywhere : (condition : Condition)
      → ((cells : List ℕ) → Stands l.board (length part) cells → MeetsAt l place part entries condition cells)
      → Meets l place part entries condition
  met_everywhere Goals each cells = λ goal. each cells goal.stands goal
  met_everywhere Meetings each cells = λ stands. each cells stands stands
  met_everywhere Moves each cells = λ after long m.
      each cells (subst (λ size. Stands l.board size cells) long m.stands) after long m

  module _ (condition : Condition) where
    -- it is met at each placement with a lower number
    abbrev pub MeetsBelow : ℕ → Type 0
    MeetsBelow n = (cells : List ℕ) → Stands l.board (length part) cells → placement_number l.board cells < n
        → MeetsAt l place part entries condition cells

    -- none has a number below 0
    pub meets_none : MeetsBelow 0
    meets_none cells stands below = absurd (omega arith)

    -- one placement more
    pub meets_more : (n : ℕ) (cells : List ℕ) → ByteFor l part entries cells n → MeetsBelow n
        → MeetsAt l place part entries condition cells → MeetsBelow (n + 1)
    meets_more n cells byte before here other stands below =
        ⊎_elim
        (before other stands)
        (λ reached.
        let also = subst (λ size. Stands l.board size other) (sym byte.stands.long) stands in
        let same = number_one l.board cells other (all_stand byte) also (omega (arith, byte.numbered)) in
        subst (MeetsAt l place part entries condition) same here)
        (cases_lt (placement_number l.board other) n)

    -- all of them
    pub meets_all : length entries ≡ free_count l.board ^ length part → MeetsBelow (length entries)
        → Meets l place part entries condition
    meets_all whole before = met_everywhere condition
        (λ cells stands.
        let byte : ByteFor l part entries cells (placement_number l.board cells) =
        record { whole = whole; stands = stands; numbered = refl } in
        before cells stands (byte_there byte))
