-- The line of an open move says its direction, and a written direction that can be followed is a move.
-- Assumes nothing.
use Rattle.std.specs.Prelude.{◌≡◌, ℕ, ◌≤◌, length, Some, None, Ok, Option, refl}
use Rattle.std.proofs.Common.{ap, ◌∙◌, lit≤}
use Rattle.grid.specs.declared.Direction.{Direction}
use Rattle.grid.specs.declared.Direction.TheVariants.{Up, Down, Left, Right}
use Rattle.grid.specs.Grid.{number_of, direction_of}
use Rattle.grid.proofs.Laws.{number_of_lt, number_of_direction_of}
use Rattle.text.specs.Lines.{OneLine}
use Rattle.text.proofs.Cases.{clash}
use Rattle.ways.specs.Notations.{longest_line, outcome_of, Spells, Legal, Lawful}
use Rattle.tiles.specs.Level.{Tiles, destination, game}
use Rattle.tiles.specs.WrittenMoves.{direction_in, direction_line, move_line, spelling}

reads_back : (d : Direction) → direction_in (direction_line d) ≡ Some d
reads_back Up = refl
reads_back Down = refl
reads_back Left = refl
reads_back Right = refl

one_line : (d : Direction) → OneLine (direction_line d)
one_line Up = refl
one_line Down = refl
one_line Left = refl
one_line Right = refl

short_line : (d : Direction) → length (direction_line d) ≤ longest_line
short_line Up = lit≤ tt
short_line Down = lit≤ tt
short_line Left = lit≤ tt
short_line Right = lit≤ tt

-- only an open move has a position as its outcome
open_outcome : (o : Option ℕ) (q : ℕ) → outcome_of o ≡ Ok q → o ≡ Some q
open_outcome (Some p) q e = let same : p ≡ q = cc in ap Some same
open_outcome None q e = absurd (clash _ _ e)

module _ (l : Tiles) (p q : ℕ) where
  spells : (m : ℕ) (o : Option Direction) → direction_of m ≡ o → destination l p m ≡ Some q → Spells (game l) (spelling l) p m q
  spells m (Some d) is leads = record {
    said = d;
    form = ap (λ o. direction_in (move_line o)) is ∙ reads_back d;
    leads = ap (λ n. outcome_of (destination l p n)) (number_of_direction_of m d is) ∙ ap outcome_of leads;
    whole = rw is (one_line d);
  }
  spells m None is leads = absurd (cc)

  short : (m : ℕ) (o : Option Direction) → direction_of m ≡ o → destination l p m ≡ Some q → length ((spelling l).line p m) ≤ longest_line
  short m (Some d) is leads = rw is (short_line d)
  short m None is leads = absurd (cc)

  legal : (d : Direction) → outcome_of (destination l p (number_of d)) ≡ Ok q → Legal (game l) (spelling l) p q
  legal d leads = record { number = number_of d; below = number_of_lt d; leads = open_outcome _ q leads }

pub readable : (l : Tiles) → Lawful (game l) (spelling l)
readable l = record {
  spells = λ p q m _ _ leads. spells l p q m (direction_of m) refl leads;
  short = λ p q m _ _ leads. short l p q m (direction_of m) refl leads;
  legal = λ p q d leads. legal l p q d leads;
  unclosed = refl;
}
