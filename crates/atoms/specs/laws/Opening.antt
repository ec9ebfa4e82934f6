-- What an open move is: an atom, a direction, and another cell where the atom rests. Assumes nothing.
use Rattle.std.proofs.Common.{◌≡◌, ℕ, ◌+◌, ◌*◌, ◌/◌, ◌%◌, ◌<◌, Bool, true, false, cond, ltb, eqb, get_or, Some, None, Option, option_and_then, refl, arith}
use Rattle.std.proofs.lemmas.Bool.{ltb-true, eqb-false}
use Rattle.grid.specs.declared.Direction.{Direction}
use Rattle.grid.specs.Grid.{number_of, direction_of}
use Rattle.grid.proofs.Laws.{number_of_direction_of}
use Rattle.atoms.specs.declared.position.Position.{Position}
use Rattle.atoms.specs.Level.{Atoms, count, rest_of, with_atom_on, slide_destination, destination}

-- the number of a move is that of its atom and its direction
pub number_of_slide : (m : ℕ) (d : Direction) → direction_of (m % 4) ≡ Some d → 4 * (m / 4) + number_of d ≡ m
number_of_slide m d named = omega (arith, number_of_direction_of (m % 4) d named)

module _ (l : Atoms) (p : Position) where
  -- a move to q: it names an atom and a direction, and the atom slides
  pub record Open (m : ℕ) (q : Position) : Type 0 where
    pub way : Direction
    pub to : ℕ
    pub there : m / 4 < count l
    pub named : direction_of (m % 4) ≡ Some way
    pub rests : rest_of l p (m / 4) way ≡ to
    pub apart : to ≡ get_or p.cells (m / 4) 0 → ⊥
    pub after : with_atom_on l p (m / 4) to ≡ q

  -- where a move leads to q it is open
  pub destination_open : (m : ℕ) (q : Position) → destination l p m ≡ Some q → Open m q
  destination_open m q e = by (ltb (m / 4) (count l)) (direction_of (m % 4)) refl refl e
    where
      by_rest : (d : Direction) → m / 4 < count l → direction_of (m % 4) ≡ Some d → (b : Bool) → eqb (rest_of l p (m / 4) d) (get_or p.cells (m / 4) 0) ≡ b → ◌≡◌ {A = Option Position} (cond b None (Some (with_atom_on l p (m / 4) (rest_of l p (m / 4) d)))) (Some q) → Open m q
      by_rest d there named true back e = cc
      by_rest d there named false away e =
          record { way = d; to = rest_of l p (m / 4) d; there = there; named = named; rests = refl; apart = eqb-false _ _ away; after = cc }

      by : (b : Bool) (o : Option Direction) → ltb (m / 4) (count l) ≡ b → direction_of (m % 4) ≡ o → ◌≡◌ {A = Option Position} (cond b (option_and_then (slide_destination l p (m / 4)) o) None) (Some q) → Open m q
      by true (Some d) below named e = by_rest d (ltb-true _ _ below) named _ refl e
      by true None below named e = cc
      by false o below named e = cc
