-- On every position that is reached each atom stands on a cell of its own. Assumes nothing.
use Rattle.std.proofs.Common.{◌≡◌, ℕ, ◌*◌, ◌/◌, ◌%◌, ◌<◌, ◌≤◌, true, false, eqb, List, [], ◌∷◌, length, get_or, take, set, Some, sym, ap, ◌∙◌, subst, ⊎_elim, mul_comm, arith}
use Rattle.std.proofs.lemmas.Nat.{div_below, mod_below, div-add-mod'}
use Rattle.std.proofs.lemmas.List.{length-set, length-take-le, get_or-take, get_or-set_same, get_or-set_other}
use Rattle.std.proofs.lemmas.List.Folds.{list_any_at}
use Rattle.std.proofs.lemmas.Bool.{both_ways, cases_eq, cond-true, and_from, or_left, lt-ltb, eq-eqb}
use Rattle.grid.specs.declared.Coordinates.{Coordinates}
use Rattle.grid.specs.Grid.{row, column, coordinates_of, cell_at}
use Rattle.puzzle.specs.Game.{Plays, here, then, Reached}
use Rattle.slides.proofs.Resting.{rest_on_free}
use Rattle.atoms.specs.declared.position.Position.{Position}
use Rattle.atoms.specs.Level.{Atoms, Valid, count, is_blocked, destination, game}
use Rattle.atoms.specs.Moves.{atom_at}
use Rattle.atoms.specs.laws.Finding.{found_first}
use Rattle.atoms.specs.laws.Opening.{destination_open}
use Rattle.atoms.specs.laws.Starting.{start_long, start_inside, start_apart}

-- sixteen cells and no more atoms, each atom on the board, and no two on one cell
pub record Standing (l : Atoms) (p : Position) : Type 0 where
  pub few : count l ≤ 16
  pub long : length p.cells ≡ 16
  pub inside : (a : ℕ) → a < count l → get_or p.cells a 0 < l.board.width * l.board.height
  pub apart : (a b : ℕ) → a < count l → b < count l → get_or p.cells a 0 ≡ get_or p.cells b 0 → a ≡ b

-- the start
start_stands : (l : Atoms) → Valid l → Standing l (game l).start
start_stands l v = record {
  few = v.few;
  long = start_long l.board v.few;
  inside = λ a h. omega (arith, start_inside l.board a h, v.board.whole);
  apart = start_apart l.board;
}

module _ (l : Atoms) where
  -- an atom blocks its cell
  atom_blocks : (p : Position) (a k : ℕ) → count l ≤ length p.cells → a < count l → k ≡ get_or p.cells a 0 → is_blocked l p k ≡ true
  atom_blocks p a k few there e =
      let inside : a < length (take (count l) p.cells) = omega (arith, length-take-le (count l) p.cells few) in
      or_left _ _
      (list_any_at (λ cell. eqb k cell) (take (count l) p.cells) a 0 inside (eq-eqb k _ (e ∙ sym (get_or-take (count l) p.cells a 0 there))))

  module _ (p : Position) (stands : Standing l p) where
    -- atom a goes to the cell t of the board, which is free
    module _ (a t : ℕ) (there : a < count l) (on : t < l.board.width * l.board.height) (free : is_blocked l p t ≡ false) where
      abbrev after : List ℕ
      after = set p.cells a t

      -- it stands there, and every other atom where it was
      at_it : (b : ℕ) → b ≡ a → get_or after b 0 ≡ t
      at_it b same = ap (λ k. get_or after k 0) same ∙ get_or-set_same p.cells a t 0 (omega (arith, stands.few, stands.long))

      at_other : (b : ℕ) → (b ≡ a → ⊥) → get_or after b 0 ≡ get_or p.cells b 0
      at_other b other = get_or-set_other p.cells a b t 0 other

      -- no other atom stands there
      none_there : (b : ℕ) → b < count l → t ≡ get_or p.cells b 0 → ⊥
      none_there b h e = both_ways _ free (atom_blocks p b t (omega (arith, stands.few, stands.long)) h e)

      -- so each atom stands on a cell of its own again
      put_inside : (b : ℕ) → b < count l → get_or after b 0 < l.board.width * l.board.height
      put_inside b h =
          ⊎_elim (λ same. omega (arith, at_it b same)) (λ other. omega (arith, at_other b other, stands.inside b h)) (cases_eq b a)

      put_apart : (b c : ℕ) → b < count l → c < count l → get_or after b 0 ≡ get_or after c 0 → b ≡ c
      put_apart b c hb hc e =
          ⊎_elim
          (λ same.
          ⊎_elim (λ also. same ∙ sym also) (λ other. absurd (none_there c hc (sym (at_it b same) ∙ e ∙ at_other c other))) (cases_eq c a))
          (λ other.
          ⊎_elim (λ same. absurd (none_there b hb (sym (at_it c same) ∙ sym e ∙ at_other b other)))
          (λ both. stands.apart b c hb hc (sym (at_other b other) ∙ e ∙ at_other c both)) (cases_eq c a))
          (cases_eq b a)

      put_stands : Standing l (record { cells = after })
      put_stands = record {
        few = stands.few;
        long = length-set p.cells a t ∙ stands.long;
        inside = put_inside;
        apart = put_apart;
      }

    -- one move
    destination_stands : (m : ℕ) (q : Position) → destination l p m ≡ Some q → Standing l q
    destination_stands m q e =
        let o = destination_open l p m q e in
        let on = rest_on_free l.board.width l.board.height (is_blocked l p) o.way (get_or p.cells (m / 4) 0) o.to o.rests o.apart in
        subst (Standing l) o.after (put_stands (m / 4) o.to o.there on.0 on.1)

  -- moves, one after the other
  plays_stands : (p q : Position) (ms : List ℕ) → Plays (game l) p ms q → Standing l p → Standing l q
  plays_stands p q [] here stands = stands
  plays_stands p q (m ∷ ms) (then {q = r} below e rest) stands =
      plays_stands r q ms rest (destination_stands p stands m r e)

-- what is reached from the start stands
pub reached_stands : (l : Atoms) → Valid l → (p : Position) → Reached (game l) p → Standing l p
reached_stands l v p way = plays_stands l _ p way.0 way.1 (start_stands l v)

module _ (l : Atoms) (p : Position) (stands : Standing l p) (a : ℕ) (there : a < count l) (wide : 1 ≤ l.board.width) where
  abbrev cell : ℕ
  cell = get_or p.cells a 0

  -- where atom a stands
  abbrev pub coordinates : Coordinates
  coordinates = record { row = row l.board.width cell; column = column l.board.width cell }

  -- it is on the board
  pub coordinates_there : coordinates_of l.board.width l.board.height cell ≡ Some coordinates
  coordinates_there = cond-true _ _ _ (lt-ltb cell (l.board.width * l.board.height) (stands.inside a there))

  cell_there : cell_at l.board.width l.board.height coordinates ≡ Some cell
  cell_there =
      let w = l.board.width in
      let h = l.board.height in
      let high = div_below cell w h wide (omega (arith, stands.inside a there, mul_comm w h)) in
      cond-true _ _ _ (and_from _ _ (lt-ltb (cell / w) h high) (lt-ltb (cell % w) w (mod_below cell w wide)))
      ∙ ap Some (div-add-mod' cell w)

  -- and the atom is found there
  pub atom_there : atom_at l p coordinates ≡ Some a
  atom_there =
      let firsts = take (count l) p.cells in
      let long : length firsts ≡ count l = length-take-le (count l) p.cells (omega (arith, stands.few, stands.long)) in
      let same : (b : ℕ) → b < count l → get_or firsts b 0 ≡ get_or p.cells b 0 = λ b. get_or-take (count l) p.cells b 0 in
      found_first l p coordinates cell a cell_there (omega arith) (same a there)
      (λ b less e.
      let below : b < count l = omega arith in
      let one = stands.apart a b there below (sym (sym (same b below) ∙ e)) in
      omega arith)
