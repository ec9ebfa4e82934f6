-- The placements of a part by their numbers: moves between them, and that a block whose reached placements are all done
-- is filled. Assumes nothing.
use Rattle.std.proofs.Common.{◌≡◌, ℕ, ◌*◌, ◌^◌, ◌<◌, ◌≤◌, ◌≢◌, Bool, Decides, min, List, length, refl, sym, ap, ◌∙◌, subst, ⊎_elim, arith}
use Rattle.std.proofs.lemmas.Bool.{cases_eq, cases_lt}
use Rattle.atoms.specs.Level.{Atoms}
use Rattle.pattern_databases.specs.Floor.{free_count}
use Rattle.pattern_databases.specs.declared.block.filling.Frontier.{Frontier}
use Rattle.pattern_databases.specs.PartMoves.{Stands, PartMove, PartMoves}
use Rattle.pattern_databases.specs.PartMoves.PartMoves.{here as arrived, then as and_then}
use Rattle.pattern_databases.specs.Layout.{placement_number}
use Rattle.pattern_databases.specs.Books.{GoalEntry, Reaches, Tells}
use Rattle.pattern_databases.specs.Books.Tells.{least, many, never}
use Rattle.pattern_databases.specs.inside.Blocks.{FilledBlock}
use Rattle.pattern_databases.specs.inside.Filling.{Front, entry_in, Keeps, Steps, Near, IsGoal, SearchedBlock}
use Rattle.pattern_databases.specs.inside.Filling.Steps.{here, then}
use Rattle.pattern_databases.proofs.Placements.{number_below, number_one}
use Rattle.pattern_databases.proofs.Moves.{as_many, after_stands}
use Rattle.pattern_databases.proofs.BreadthFirst.{shortest}

pub keeps_all : (f : Frontier) → Keeps f f
keeps_all f = record { taken = refl; entries = refl; queue = refl; whole = refl }

-- what is kept by one call and by the next is kept by both
pub keeps_on : (old next new : Frontier) → Keeps old next → Keeps next new → Keeps old new
keeps_on old next new first second = record {
  taken = second.taken ∙ first.taken;
  entries = second.entries ∙ first.entries;
  queue = second.queue ∙ first.queue;
  whole = second.whole ∙ first.whole;
}

module _ (l : Atoms) (place : ℕ) (part : List ℕ) (sized : length l.board.cells ≡ l.board.width * l.board.height) where
  abbrev number : List ℕ → ℕ
  number = placement_number l.board

  -- as many atoms stand there as there are
  as_long : {size : ℕ} {cells : List ℕ} → Stands l.board size cells → Stands l.board (length cells) cells
  as_long {size} {cells} stands = subst (λ n. Stands l.board n cells) (sym stands.long) stands

  -- placements of the part with one number are one
  pub same_placement : (cells other : List ℕ) → Stands l.board (length part) cells → Stands l.board (length part) other
      → number cells ≡ number other → cells ≡ other
  same_placement cells other stands also same =
      number_one l.board cells other (as_long stands) (subst (λ n. Stands l.board n other) (sym stands.long) also) same

  -- the atoms stand on free cells before a move and after it
  pub stands_before : {n m : ℕ} (step : Near l part n m) → Stands l.board (length part) step.cells
  stands_before step = subst (λ n. Stands l.board n step.cells) step.long step.move.stands

  pub stands_after : {n m : ℕ} (step : Near l part n m) → Stands l.board (length part) step.after
  stands_after step = subst (λ n. Stands l.board n step.after) (as_many l.board step.move ∙ step.long)
      (after_stands l.board sized step.move)

  -- Where moves lead from placements to goal entries, so they do from their numbers, and the other way round.

  steps_from : {cells goal : List ℕ} {n : ℕ} → PartMoves l.board cells n goal → GoalEntry l place part goal
      → length cells ≡ length part → Steps (Near l part) (IsGoal l place part) (number cells) n
  steps_from (arrived {cells}) is_goal long = here (record { cells = cells; goal = is_goal; number_is = refl })
  steps_from (and_then {cells} {next} move moves) is_goal long =
      then (record { cells = cells; after = next; long = long; move = move; from_is = refl; to_is = refl })
      (steps_from moves is_goal (as_many l.board move ∙ long))

  pub reaches_from : {n k : ℕ} → Steps (Near l part) (IsGoal l place part) n k → (cells : List ℕ)
      → Stands l.board (length part) cells → number cells ≡ n → Reaches l place part cells k
  reaches_from (here g) cells stands is =
      let same = same_placement cells g.cells stands g.goal.stands (is ∙ sym g.number_is) in
      record { goal = cells; moves = arrived; is_goal = subst (GoalEntry l place part) (sym same) g.goal }
  reaches_from (then step steps) cells stands is =
      let same = same_placement cells step.cells stands (stands_before step) (is ∙ sym step.from_is) in
      let rest = reaches_from steps step.after (stands_after step) step.to_is in
      record {
        goal = rest.goal;
        moves = and_then (subst (λ from. PartMove l.board from step.after) (sym same) step.move) rest.moves;
        is_goal = rest.is_goal;
      }

  -- whether a placement is a goal entry decides whether its number is a goal
  pub goal_decided : (cells : List ℕ) (n : ℕ) (answer : Bool) → Stands l.board (length part) cells → number cells ≡ n
      → Decides answer (GoalEntry l place part cells) → Decides answer (IsGoal l place part n)
  goal_decided cells n answer stands is decides = (
    λ yes. record { cells = cells; goal = decides.0 yes; number_is = is },
    λ g.
        let same = same_placement cells g.cells stands g.goal.stands (is ∙ sym g.number_is) in
        decides.1 (subst (GoalEntry l place part) (sym same) g.goal),
  )

  module _ (many : ℕ) (whole : many ≡ free_count l.board ^ length part) where
    -- placements are numbered below their count
    pub below : (cells : List ℕ) → Stands l.board (length part) cells → number cells < many
    below cells stands =
        omega (arith, number_below l.board cells (as_long stands), ap (λ n. free_count l.board ^ n) stands.long, whole)

    goal_below : (n : ℕ) → IsGoal l place part n → n < many
    goal_below n g = omega (arith, below g.cells g.goal.stands, g.number_is)

    after_below : (n m : ℕ) → Near l part n m → m < many
    after_below n m step = omega (arith, below step.after (stands_after step), step.to_is)

  -- once all that are reached are done, each byte tells of its placement
  module _ (f : Front) (whole : length f.entries ≡ free_count l.board ^ length part)
      (s : SearchedBlock l place part f (length f.entries) f.reached)
      (cells : List ℕ) (stands : Stands l.board (length part) cells) where
    abbrev byte : ℕ
    byte = entry_in f (number cells)

    no_fewer : (k : ℕ) → Reaches l place part cells k → byte ≤ min k 254
    no_fewer k r =
        shortest (Near l part) (IsGoal l place part) f s (goal_below (length f.entries) whole)
        (after_below (length f.entries) whole)
        (steps_from r.moves r.is_goal stands.long)

    none_lead : byte ≡ 255 → Tells l place part cells byte
    none_lead is = subst (Tells l place part cells) (sym is) (never (λ k r. omega (arith, no_fewer k r)))

    some_lead : byte ≢ 255 → Tells l place part cells byte
    some_lead reached =
        let told = s.told (number cells) (below (length f.entries) whole cells stands) reached in
        let leads = reaches_from told.1 cells stands refl in
        ⊎_elim
        (λ (few : told.0 < 254).
        let is : byte ≡ told.0 = omega (arith, told.2) in
        subst (Tells l place part cells) (sym is) (least few leads (λ k r. omega (arith, no_fewer k r))))
        (λ (more : 254 ≤ told.0).
        let is : byte ≡ 254 = omega (arith, told.2) in
        subst (Tells l place part cells) (sym is) (many {n = told.0} leads (λ k r. omega (arith, no_fewer k r))))
        (cases_lt told.0 254)

    tells : Tells l place part cells byte
    tells = ⊎_elim none_lead some_lead (cases_eq byte 255)

  pub filled : (f : Front) (done : ℕ) (bytes : List ℕ) → length f.entries ≡ free_count l.board ^ length part
      → SearchedBlock l place part f (length f.entries) done → done ≡ f.reached → bytes ≡ f.entries
      → FilledBlock l place part bytes
  filled f done bytes whole s all same =
      subst (FilledBlock l place part) (sym same)
      (tells f whole (subst (SearchedBlock l place part f (length f.entries)) all s))
