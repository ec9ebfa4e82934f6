-- A move is open exactly where an atom slides. Assumes nothing.
use Rattle.std.proofs.Common.{◌≡◌, ℕ, ◌+◌, ◌*◌, ◌/◌, ◌%◌, ◌<◌, ◌≤◌, true, false, List, length, get_or, take, set, length-take, Some, None, Option, option_and_then, sym, refl, ap, ◌∙◌, subst, ⊎_elim, arith}
use Rattle.std.proofs.lemmas.List.{length-set, get_or-take, get_or-set_same, get_or-set_other, ext_get_or}
use Rattle.std.proofs.lemmas.Bool.{cases_eq, cond-true, cond-false, lt-ltb, eq-eqb, ne_eqb}
use Rattle.grid.specs.declared.Direction.{Direction}
use Rattle.grid.specs.declared.Grid.{Grid}
use Rattle.grid.specs.declared.Coordinates.{Coordinates}
use Rattle.grid.specs.Grid.{number_of, direction_of, cell_at}
use Rattle.grid.proofs.Laws.{direction_of_number_of, number_of_lt}
use Rattle.puzzle.specs.Game.{Played}
use Rattle.slides.specs.declared.cell_set.CellSet.{CellSet}
use Rattle.slides.specs.Sets.{has}
use Rattle.slides.specs.Slides.{rest_cell, Slides}
use Rattle.slides.proofs.Resting.{slides_exactly, rest_same}
use Rattle.atoms.specs.declared.position.Position.{Position}
use Rattle.atoms.specs.Level.{Atoms, count, is_blocked, HasBlocked, rest_of, with_atom_on, slide_destination, destination}
use Rattle.atoms.specs.Moves.{Moves, MovesExactly, atom_on, atom_at}
use Rattle.atoms.specs.laws.Opening.{number_of_slide, Open, destination_open}

-- what `play` answers of an open move and of a closed one
pub played_open : {P : Type 0} (o : Option P) (q old : P) → o ≡ Some q → Played o true old q
played_open o q old e = subst (λ m. Played m true old q) (sym e) (refl, refl)

pub played_closed : {P : Type 0} (o : Option P) (old : P) → o ≡ None → Played o false old old
played_closed o old e = subst (λ m. Played m false old old) (sym e) (refl, refl)

-- the size of the board
abbrev pub grid_of : Atoms → Grid
grid_of l = record { width = l.board.width; height = l.board.height }

module _ (l : Atoms) (p : Position) where
  -- a move whose number names an atom and a direction is that atom's slide
  destination_slides : (m : ℕ) (d : Direction) → m / 4 < count l → direction_of (m % 4) ≡ Some d → destination l p m ≡ slide_destination l p (m / 4) d
  destination_slides m d there named =
      cond-true _ _ _ (lt-ltb _ _ there) ∙ ap (option_and_then (slide_destination l p (m / 4))) named

  -- the same of the number that the atom and the direction give
  pub destination_of_slide : (a : ℕ) (d : Direction) → a < count l → destination l p (4 * a + number_of d) ≡ slide_destination l p a d
  destination_of_slide a d there =
      let low = number_of_lt d in
      let atom : (4 * a + number_of d) / 4 ≡ a = omega arith in
      let direction : (4 * a + number_of d) % 4 ≡ number_of d = omega arith in
      destination_slides (4 * a + number_of d) d (omega arith) (ap direction_of direction ∙ direction_of_number_of d)
      ∙ ap (λ k. slide_destination l p k d) atom

  -- an atom of the level stands on its cell
  pub stands_on : (cells : List ℕ) (a from : ℕ) → cells ≡ take (count l) p.cells → a < length cells → from ≡ get_or cells a 0 → (a < count l) × (from ≡ get_or p.cells a 0)
  stands_on cells a from all inside stands =
      let there : a < count l = omega (arith, ap length all, length-take (count l) p.cells) in
      (there, stands ∙ ap (λ cs. get_or cs a 0) all ∙ get_or-take (count l) p.cells a 0 there)

  -- the atom on a row and a column, by what the steps of the code answer
  pub atom_at_by : (at : Coordinates) (g : Grid) (cell : ℕ) (o : Option ℕ) → g ≡ grid_of l → Some cell ≡ cell_at g.width g.height at → o ≡ atom_on l p cell → o ≡ atom_at l p at
  atom_at_by at g cell o size on answer =
      answer ∙ ap (option_and_then (atom_on l p)) (on ∙ ap (λ (k : Grid). cell_at k.width k.height at) size)

  -- where the atom rests, by what the steps of the code answer
  pub rest_by : (g : Grid) (s : CellSet) (a : ℕ) (d : Direction) (from to : ℕ) → g ≡ grid_of l → HasBlocked l p s → from ≡ get_or p.cells a 0 → to ≡ rest_cell g.width g.height (has s) d from → rest_of l p a d ≡ to
  rest_by g s a d from to size same stands rests =
      sym
      (rests
      ∙ rest_same g.width g.height (has s) (is_blocked l p) d from same
      ∙ ap (λ (k : Grid). rest_cell k.width k.height (is_blocked l p) d from) size
      ∙ ap (rest_cell l.board.width l.board.height (is_blocked l p) d) stands)

  -- the slide is closed where the atom rests on its own cell, and else leads to where it rests
  pub slide_closed : (a : ℕ) (d : Direction) → rest_of l p a d ≡ get_or p.cells a 0 → slide_destination l p a d ≡ None
  slide_closed a d back = cond-true _ _ _ (eq-eqb _ _ back)

  pub slide_open : (a : ℕ) (d : Direction) (to : ℕ) → rest_of l p a d ≡ to → (to ≡ get_or p.cells a 0 → ⊥) → slide_destination l p a d ≡ Some (with_atom_on l p a to)
  slide_open a d to rests apart =
      cond-false _ _ _ (ne_eqb _ _ (λ back. apart (sym rests ∙ back))) ∙ ap (λ k. Some (with_atom_on l p a k)) rests

  module _ (few : count l ≤ 16) (long : length p.cells ≡ 16) (m : ℕ) (q : Position) where
    -- an open move is a slide
    open_moves : Open l p m q → Moves l p m q
    open_moves o =
        let a = m / 4 in
        let here : get_or (set p.cells a o.to) a 0 ≡ o.to = get_or-set_same p.cells a o.to 0 (omega (arith, o.there)) in
        subst (Moves l p m) o.after (record {
          atom = a;
          direction = o.way;
          numbered = sym (number_of_slide m o.way o.named);
          there = o.there;
          slides = subst (Slides l.board.width l.board.height (is_blocked l p) o.way (get_or p.cells a 0)) (sym here) ((slides_exactly _ _ _ _ _ _).0 (o.rests, o.apart));
          others = λ b apart. get_or-set_other p.cells a b o.to 0 apart;
          long = length-set p.cells a o.to ∙ long;
        })

    -- a position that differs in one atom is the other with that atom put there
    put_is : (a : ℕ) → a < 16 → ((b : ℕ) → (b ≡ a → ⊥) → get_or q.cells b 0 ≡ get_or p.cells b 0) → length q.cells ≡ 16 → set p.cells a (get_or q.cells a 0) ≡ q.cells
    put_is a h others all =
        let to = get_or q.cells a 0 in
        ext_get_or 0 _ q.cells (length-set p.cells a to ∙ long ∙ sym all)
        (λ b inside.
        ⊎_elim
        (λ same. ap (λ k. get_or (set p.cells a to) k 0) same ∙ get_or-set_same p.cells a to 0 (omega arith) ∙ ap (λ k. get_or q.cells k 0) (sym same))
        (λ apart. get_or-set_other p.cells a b to 0 apart ∙ sym (others b apart))
        (cases_eq b a))

    -- a slide is an open move
    moves_open : Moves l p m q → destination l p m ≡ Some q
    moves_open s =
        let slide = (slides_exactly _ _ _ _ _ _).1 s.slides in
        ap (destination l p) s.numbered
        ∙ destination_of_slide s.atom s.direction s.there
        ∙ slide_open s.atom s.direction _ slide.0 slide.1
        ∙ ap (λ cs. Some (record { cells = cs })) (put_is s.atom (omega (arith, s.there)) s.others s.long)

-- a move is open and leads to q exactly where an atom slides so
pub moves_exactly : (l : Atoms) → count l ≤ 16 → (p : Position) (m : ℕ) → MovesExactly l p m
moves_exactly l few p m long q =
    (λ e. open_moves l p few long m q (destination_open l p m q e), moves_open l p few long m q)
