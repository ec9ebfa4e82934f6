-- The bound of a book that passes is at most the length of every way to the finish. Assumes nothing.
use Rattle.std.proofs.Common.{◌≡◌, ℕ, ◌<◌, true, List, [], length, get_or, Some, sym, ap, ◌∙◌, subst, arith}
use Rattle.std.proofs.lemmas.Option.{slice_get-get_or}
use Rattle.std.proofs.lemmas.List.Folds.{Any-from_list_any}
use Rattle.std.proofs.lemmas.List.{get_or_default}
use Rattle.puzzle.specs.Game.{Reached}
use Rattle.puzzle.specs.Meaning.{Lawful}
use Rattle.puzzle.specs.Consistent.{Consistent, Move}
use Rattle.puzzle.proofs.Consistent.{consistent_admissible, consistent_dead}
use Rattle.molecules.specs.GoalPlaces.{LiesOver}
use Rattle.molecules.proofs.Below.{every_below_lem}
use Rattle.molecules.proofs.Overlays.{wants_exactly}
use Rattle.atoms.specs.declared.position.Position.{Position}
use Rattle.atoms.specs.declared.level.AtomLevel.{AtomLevel}
use Rattle.atoms.specs.Board.{labels_of}
use Rattle.atoms.specs.Level.{Atoms, Valid, atoms, count, fits, finished, game}
use Rattle.atoms.specs.Moves.{Moves}
use Rattle.atoms.specs.laws.Lawful as bare
use Rattle.atoms.specs.laws.Levels.{level_valid}
use Rattle.atoms.specs.laws.Standing.{Standing, reached_stands}
use Rattle.atoms.proofs.Sliding.{moves_exactly}
use Rattle.pattern_databases.specs.Books.{Passes}
use Rattle.pattern_databases.specs.Layout.{places, parts, Block, entry_at}
use Rattle.pattern_databases.specs.Meaning.{cells_of, byte_of, place_bound, bound, meaning}
use Rattle.pattern_databases.specs.inside.Bounds.{OnFree}
use Rattle.pattern_databases.specs.laws.Sums.{Slow, slow_least, slow_sum, slow_numbers, slow_none, sum_zeroes, least_zero}
use Rattle.pattern_databases.specs.laws.Parting.{part_at, atom_at, Parting, pairs}
use Rattle.pattern_databases.specs.laws.Standing.{reached_free}
use Rattle.pattern_databases.specs.laws.Moving.{cell_is, part_stands, part_apart, part_stays, part_moves}

module _ (l : Atoms) (valid : Valid l) (bytes : List ℕ) (passes : Passes l bytes) where
  parting : Parting (count l) (parts l)
  parting = pairs (count l)

  module _ (p : Position) (reached : Reached (game l) p) where
    stands : Standing l p
    stands = reached_stands l valid p reached

    free : OnFree l p
    free = reached_free l valid p reached

    module _ (g : ℕ) (place_there : g < length (places l)) where
      -- the block of a part at a goal place
      abbrev block : (j : ℕ) → j < length (parts l) → Block l
      block j there = record {
        place_number = g;
        place = get_or (places l) g 0;
        place_is = slice_get-get_or (places l) g 0 place_there;
        part_number = j;
        part = part_at (parts l) j;
        part_is = slice_get-get_or (parts l) j [] there;
      }

      -- where all atoms fit there, each byte is 0
      goal_byte : fits l p (get_or (places l) g 0) ≡ true → (j : ℕ) → j < length (parts l) → byte_of l bytes p g j ≡ 0
      goal_byte fit j there =
          let place = get_or (places l) g 0 in
          let part = part_at (parts l) j in
          passes.goals (block j there) (cells_of p part) (record {
            stands = part_stands l (parts l) parting p j there free;
            apart = part_apart l (parts l) parting p j there stands;
            fits = λ i inside.
                let atom = atom_at (parts l) j i in
                let wanted = every_below_lem (count l) _ fit atom (parting.atoms j i there inside) in
                let wide = valid.molecule.wide in
                subst (λ cell. LiesOver l.board l.molecule place cell (get_or (labels_of l.board) atom 0)) (sym (cell_is p part i inside))
                ((wants_exactly l.board l.molecule place _ _ wide.0).0 wanted);
          })

      goal_place : fits l p (get_or (places l) g 0) ≡ true → place_bound l bytes p g ≡ Some 0
      goal_place fit = sum_zeroes (byte_of l bytes p g) 0 (length (parts l)) (λ j h. goal_byte fit j (omega arith))

      -- one move lowers the sum there by at most one
      slow_place : (q : Position) (m : ℕ) → Moves l p m q → Slow (place_bound l bytes p g) (place_bound l bytes q g)
      slow_place q m move =
          let at = parting.each move.atom move.there in
          let there = at.part_there in
          let moved = part_moves l (parts l) parting p q m move stands free at.number at.place there at.there at.is in
          let long = (part_stands l (parts l) parting p at.number there free).long in
          slow_sum (byte_of l bytes p g) (byte_of l bytes q g) at.number (passes.moves (block at.number there) _ _ long moved)
          0 (length (parts l))
          (λ k below other.
          let here : k < length (parts l) = omega arith in
          ap (entry_at l bytes g k) (part_stays l (parts l) parting p q m move k here
          (λ i inside same. other (parting.once k i at.number at.place here inside there at.there (same ∙ sym at.is)).0)))

    goal : finished l p ≡ true → bound l bytes p ≡ Some 0
    goal done =
        let on = Any-from_list_any (fits l p) (places l) done in
        let fit = ap (fits l p) (get_or_default (places l) on.0 0 on.1 on.2 ∙ on.3) ∙ on.4 in
        least_zero (place_bound l bytes p) on.0 (goal_place on.0 on.2 fit) 0 (length (places l)) (omega arith) (omega (arith, on.2))

    slow : (q : Position) (m : ℕ) → Moves l p m q → Slow (bound l bytes p) (bound l bytes q)
    slow q m move =
        slow_least (place_bound l bytes p) (place_bound l bytes q) 0 (length (places l))
        (λ g h. slow_place g (omega arith) q m move)

  -- a move of the level
  moves_of : (p q : Position) (move : Move (meaning l bytes) p q) → Moves l p move.number q
  moves_of p q move =
      (moves_exactly l valid.few p move.number (reached_stands l valid p move.reached).long q).0 move.leads

  pub consistent : Consistent (meaning l bytes)
  consistent = record {
    goal = goal;
    step = λ p q move a b before after. slow_numbers _ _ a b before after (slow p move.reached q move.number (moves_of p q move));
    dead = λ p q move before. slow_none _ _ before (slow p move.reached q move.number (moves_of p q move));
  }

pub lawful : (l : AtomLevel) (bytes : List ℕ) → Passes (atoms l) bytes → Lawful (meaning (atoms l) bytes)
lawful l bytes passes =
    let m = meaning (atoms l) bytes in
    let c = consistent (atoms l) (level_valid l) bytes passes in
    record {
      some = omega arith;
      few = omega arith;
      admissible = consistent_admissible m c;
      dead = consistent_dead m c;
      alike = (bare.lawful (atoms l)).alike;
    }
