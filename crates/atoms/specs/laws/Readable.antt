-- The line of an open move says that move, and a written move that can be followed is a legal one. Assumes nothing.
use Rattle.std.specs.Prelude.{◌≡◌, ℕ, ◌+◌, ◌*◌, ◌/◌, ◌%◌, ◌<◌, ◌≤◌, length, Some, None, Ok, Option, slice_index, refl}
use Rattle.std.proofs.Common.{ap, ◌∙◌, arith}
use Rattle.std.proofs.lemmas.Nat.{div_below, mod_below}
use Rattle.std.proofs.lemmas.Bool.{cond-true, lt-ltb}
use Rattle.grid.specs.Grid.{number_of, direction_of, row, column}
use Rattle.grid.proofs.Laws.{number_of_lt}
use Rattle.atoms.specs.declared.position.Position.{Position}
use Rattle.atoms.specs.declared.notation.AtomMove.{AtomMove}
use Rattle.atoms.specs.declared.level.AtomLevel.{AtomLevel}
use Rattle.atoms.specs.Level.{Atoms, Valid, atoms, count, destination, game}
use Rattle.atoms.specs.Moves.{atom_at}
use Rattle.atoms.specs.WrittenMoves.{move_of, move_in, move_text, line_from, line_of, outcome_by, spelling}
use Rattle.atoms.specs.laws.Spelling.{reads_back, one_line, short_line}
use Rattle.atoms.specs.laws.Levels.{level_valid}
use Rattle.atoms.specs.laws.Finding.{atom_at_below}
use Rattle.atoms.specs.laws.Opening.{number_of_slide, destination_open}
use Rattle.atoms.specs.laws.Standing.{Standing, reached_stands, coordinates_there, atom_there}
use Rattle.ways.specs.Notations.{longest_line, outcome_of, Spells, Legal, Lawful}

-- move m of a position leads to q
module _ (l : Atoms) (valid : Valid l) (p q : Position) (m : ℕ) (stands : Standing l p) (leads : destination l p m ≡ Some q) where
  abbrev a : ℕ
  a = m / 4

  abbrev w : ℕ
  w = l.board.width

  abbrev cell : ℕ
  cell = slice_index p.cells a

  there : a < count l
  there = (destination_open l p m q leads).there

  -- the atom's row and column are short
  high : row w cell < 100
  high =
      let limits = valid.board in
      let wide = limits.wide in
      let tall = limits.high in
      omega (arith, div_below cell w l.board.height (omega arith) (omega (arith, stands.inside a there)))

  wide : column w cell < 100
  wide = let limits = valid.board.wide in omega (arith, mod_below cell w (omega arith))

  -- what its line says
  abbrev said : AtomMove
  said = move_of (row w cell) (column w cell) (destination_open l p m q leads).way

  line_is : line_of l p m ≡ move_text said
  line_is =
      let some = valid.board.wide in
      cond-true _ _ _ (lt-ltb a (count l) there)
      ∙ ap (λ at. line_from at (direction_of (m % 4))) (coordinates_there l p stands a there some.0)
      ∙ ap (line_from (Some said.from)) (destination_open l p m q leads).named

  -- what the line says leads there
  pub spells : Spells (game l) (spelling l) p m q
  spells =
      let o = destination_open l p m q leads in
      let d = o.way in
      let some = valid.board.wide in
      record {
        said = said;
        form = ap move_in line_is ∙ reads_back said high wide;
        leads =
            ap (outcome_by l p d) (atom_there l p stands a there some.0)
            ∙ ap (λ k. outcome_of (destination l p k)) (number_of_slide m d o.named)
            ∙ ap outcome_of leads;
        whole = rw line_is (one_line said high wide);
      }

  pub short : length ((spelling l).line p m) ≤ longest_line
  short = rw line_is (short_line said high wide)

-- a written move that leads to a position is a legal one
legal_by : (l : Atoms) (few : count l ≤ 16) (p q : Position) (w : AtomMove) (o : Option ℕ) → atom_at l p w.from ≡ o → outcome_by l p w.direction o ≡ Ok q → Legal (game l) (spelling l) p q
legal_by l few p q w (Some a) there is = record {
  number = 4 * a + number_of w.direction;
  below = omega (arith, number_of_lt w.direction, atom_at_below l p w.from a there);
  leads = by (destination l p (4 * a + number_of w.direction)) is;
}
  where
    by : (o : Option Position) → outcome_of o ≡ Ok q → o ≡ Some q
    by (Some r) e = cc
    by None e = cc
legal_by l few p q w None there is = cc

pub readable_where_valid : (l : Atoms) → Valid l → Lawful (game l) (spelling l)
readable_where_valid l valid = record {
  spells = λ p q m reached _ leads. spells l valid p q m (reached_stands l valid p reached) leads;
  short = λ p q m reached _ leads. short l valid p q m (reached_stands l valid p reached) leads;
  legal = λ p q w e. legal_by l valid.few p q w (atom_at l p w.from) refl e;
  unclosed = refl;
}

pub readable : (l : AtomLevel) → Lawful (game (atoms l)) (spelling (atoms l))
readable l = readable_where_valid (atoms l) (level_valid l)
