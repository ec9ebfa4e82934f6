-- The bounds of the graph are at most its distances, which one move lowers by at most one. Assumes nothing.
use Rattle.std.specs.Prelude.{◌≡◌, ℕ, zero, suc, ◌+◌, ◌≤◌, List, [], ◌∷◌, length, slice_get, Some, None, Option}
use Rattle.std.proofs.Common.{refl, ap, arith}
use denote.Enum.Bare.{same_true, true_same}
use Rattle.puzzle.specs.Game.{Reached, Finishes}
use Rattle.puzzle.specs.Meaning.{Meaning, Lawful}
use Rattle.puzzle.specs.Consistent.{Move, Consistent}
use Rattle.puzzle.proofs.Consistent.{consistent_admissible, consistent_dead}
use Rattle.search_cases.specs.contracts.graph.Spot.{the_type}
use Rattle.search_cases.specs.declared.graph.Spot.{Spot}
use Rattle.search_cases.specs.declared.graph.Spot.TheVariants.{Gate, Path, Turn, Hill, Hall, Door, Room, Pit, Trap}
use Rattle.search_cases.specs.Graph.{leads, bound, meaning}

-- how many moves a spot is from the room; none where no moves lead there
abbrev far : Spot → Option ℕ
far Gate = Some 4
far Path = Some 4
far Turn = Some 3
far Hill = Some 3
far Hall = Some 2
far Door = Some 1
far Room = Some 0
far Pit = None
far Trap = None

-- Of two that are known the first is as it has to be beside the second; and what is known to be dead stays so.
abbrev Beside : (ℕ → ℕ → Type 0) → Option ℕ → Option ℕ → Type 0
Beside R (Some a) (Some b) = R a b
Beside R (Some a) None = Unit {0}
Beside R None (Some b) = ⊥
Beside R None None = Unit {0}

stays_dead : (R : ℕ → ℕ → Type 0) (a b : Option ℕ) → Beside R a b → a ≡ None → b ≡ None
stays_dead R (Some a) b beside dead = absurd (cc)
stays_dead R None (Some b) beside dead = absurd beside
stays_dead R None None beside dead = refl

-- one move lowers a distance by at most one
abbrev Near : Option ℕ → Option ℕ → Type 0
Near = Beside (λ a b. a ≤ b + 1)

-- a bound is at most the distance
abbrev Below : Option ℕ → Option ℕ → Type 0
Below = Beside (λ n d. n ≤ d)

abbrev Each : (Spot → Type 0) → List Spot → Type 0
Each F [] = Unit {0}
Each F (p ∷ ps) = F p × Each F ps

one_of : (F : Spot → Type 0) (ps : List Spot) (n : ℕ) (q : Spot) → Each F ps → slice_get ps n ≡ Some q → F q
one_of F [] n q each is = absurd (cc)
one_of F (p ∷ ps) zero q each is = (let same : p ≡ q = cc in rw (← same) each.0)
one_of F (p ∷ ps) (suc n) q each is = one_of F ps n q each.1 is

all_near : (p : Spot) → Each (λ q. Near (far p) (far q)) (leads p)
all_near Gate = (tt, (omega arith, (omega arith, tt)))
all_near Path = (omega arith, tt)
all_near Turn = (omega arith, tt)
all_near Hill = (omega arith, tt)
all_near Hall = (omega arith, tt)
all_near Door = (omega arith, tt)
all_near Room = tt
all_near Pit = tt
all_near Trap = (tt, tt)

all_below : (p : Spot) → Below (bound p) (far p)
all_below Gate = omega arith
all_below Path = omega arith
all_below Turn = omega arith
all_below Hill = omega arith
all_below Hall = omega arith
all_below Door = omega arith
all_below Room = omega arith
all_below Pit = tt
all_below Trap = tt

module _ (start : Spot) where
  -- the graph with its distances for bounds
  abbrev exact : Meaning Spot
  exact = record (meaning start) { lower_bound = far }

  near : (p q : Spot) → Move exact p q → Near (far p) (far q)
  near p q move = one_of (λ r. Near (far p) (far r)) (leads p) move.number q (all_near p) move.leads

  consistent : Consistent exact
  consistent = record {
    goal = λ p _ finished. ap far (same_true the_type tt p Room finished);
    step = λ p q move a b before after. (let less = near p q move in rw (before, after) at less);
    dead = λ p q move dead. stays_dead _ (far p) (far q) (near p q move) dead;
  }

  way_there : (p : Spot) (moves : List ℕ) → Finishes (meaning start).game p moves → Finishes exact.game p moves
  way_there p moves way = record { last = way.last; plays = way.plays; finished = way.finished }

  at_most : (p : Spot) → Reached exact.game p → (moves : List ℕ) → Finishes (meaning start).game p moves → (b d : Option ℕ) → bound p ≡ b → far p ≡ d → Below b d → (n : ℕ) → b ≡ Some n → n ≤ length moves
  at_most p reached moves way (Some k) (Some d) is far_is below n same =
      let less = consistent_admissible exact consistent p reached d far_is moves (way_there p moves way) in
      let one : k ≡ n = cc in
      omega arith
  at_most p reached moves way (Some k) None is far_is below n same = absurd (consistent_dead exact consistent p reached far_is moves (way_there p moves way))
  at_most p reached moves way None d is far_is below n same = absurd (cc)

  pub lawful : Lawful (meaning start)
  lawful = record {
    some = omega arith;
    few = omega arith;
    admissible = λ p reached n is moves way. at_most p reached moves way (bound p) (far p) refl refl (all_below p) n is;
    dead = λ p reached is moves way. consistent_dead exact consistent p reached (stays_dead _ (bound p) (far p) (all_below p) is) moves (way_there p moves way);
    alike = λ p q _ _. (same_true the_type tt p q, true_same the_type p q);
  }
