-- On every position that is reached the atoms stand on free cells. Assumes nothing.
use Rattle.std.proofs.Common.{◌≡◌, ℕ, ◌/◌, ◌<◌, ◌≤◌, true, false, List, [], ◌∷◌, length, get_or, set, Some, refl, ap, ◌∙◌, subst, ⊎_elim, arith}
use Rattle.std.specs.List.{range_with_len}
use Rattle.std.proofs.lemmas.List.{length-set, get_or_append_left, get_or-set_same, get_or-set_other, get_or_default}
use Rattle.std.proofs.lemmas.List.Elements.{All-get_or, filter_passes}
use Rattle.std.proofs.lemmas.Bool.{cases_eq, or_parts, false≢true}
use Rattle.puzzle.specs.Game.{Plays, here, then, Reached}
use Rattle.pictures.specs.declared.cell.Cell.{Cell}
use Rattle.pictures.specs.declared.cell.Cell.TheVariants.{Wall, Free, Atom}
use Rattle.pictures.specs.Pictures.{Shape, cell_at}
use Rattle.molecules.specs.Atoms.{is_wall, is_atom, atom_count}
use Rattle.slides.proofs.Resting.{rest_on_free}
use Rattle.atoms.specs.declared.position.Position.{Position}
use Rattle.atoms.specs.Board.{atom_cells, start_cells, is_wall_at}
use Rattle.atoms.specs.Level.{Atoms, Valid, count, is_blocked, destination, game}
use Rattle.atoms.specs.laws.Opening.{destination_open}
use Rattle.atoms.specs.laws.Starting.{length_atoms, start_long, start_inside}
use Rattle.atoms.specs.laws.Standing.{reached_stands}
use Rattle.pattern_databases.specs.inside.Bounds.{OnFree}

-- sixteen cells, and no atom on a wall
record OffWalls (l : Atoms) (p : Position) : Type 0 where
  pub long : length p.cells ≡ 16
  pub unwalled : (a : ℕ) → a < count l → is_wall_at l.board (get_or p.cells a 0) ≡ false

-- an atom is no wall
atom_no_wall : (c : Cell) → is_atom c ≡ true → is_wall c ≡ false
atom_no_wall Wall is = absurd (false≢true is)
atom_no_wall Free is = refl
atom_no_wall (Atom x) is = refl

module _ (b : Shape) where
  -- where an atom is drawn is no wall
  atom_cell_free : (a : ℕ) → a < atom_count b → is_wall_at b (get_or (start_cells b) a 0) ≡ false
  atom_cell_free a there =
      let cell = get_or (start_cells b) a 0 in
      let listed : a < length (atom_cells b) = omega (arith, length_atoms b) in
      let same : cell ≡ get_or (atom_cells b) a 0 = get_or_append_left (atom_cells b) _ 0 a listed in
      let all = filter_passes (λ i. is_atom (cell_at b i)) (range_with_len 0 (length b.cells)) in
      let is = All-get_or (λ i. is_atom (cell_at b i) ≡ true) (atom_cells b) a 0 listed all in
      ap is_wall (get_or_default b.cells cell Free Wall (start_inside b a there))
      ∙ atom_no_wall _ (ap (λ k. is_atom (cell_at b k)) same ∙ is)

module _ (l : Atoms) (few : count l ≤ 16) where
  -- an atom slides to a cell that is no wall
  destination_off_walls : (p q : Position) (m : ℕ) → destination l p m ≡ Some q → OffWalls l p → OffWalls l q
  destination_off_walls p q m leads before =
      let o = destination_open l p m q leads in
      let a = m / 4 in
      let on = rest_on_free l.board.width l.board.height (is_blocked l p) o.way (get_or p.cells a 0) o.to o.rests o.apart in
      let inside : a < length p.cells = omega (arith, o.there, before.long) in
      let to_free : is_wall_at l.board o.to ≡ false = (or_parts _ _ on.1).1 in
      subst (OffWalls l) o.after (record {
        long = length-set p.cells a o.to ∙ before.long;
        unwalled = λ b there. ⊎_elim
            (λ moved. ap (is_wall_at l.board) (ap (λ k. get_or (set p.cells a o.to) k 0) moved
            ∙ get_or-set_same p.cells a o.to 0 inside) ∙ to_free)
            (λ other. ap (is_wall_at l.board) (get_or-set_other p.cells a b o.to 0 other) ∙ before.unwalled b there)
            (cases_eq b a);
      })

  plays_off_walls : (p q : Position) (ms : List ℕ) → Plays (game l) p ms q → OffWalls l p → OffWalls l q
  plays_off_walls p q [] here before = before
  plays_off_walls p q (m ∷ ms) (then {q = r} below leads rest) before =
      plays_off_walls r q ms rest (destination_off_walls p r m leads before)

-- what is reached from the start stands on free cells
pub reached_free : (l : Atoms) → Valid l → (p : Position) → Reached (game l) p → OnFree l p
reached_free l valid p way a there =
    let stands = reached_stands l valid p way in
    let start : OffWalls l (game l).start = record { long = start_long l.board valid.few; unwalled = atom_cell_free l.board } in
    let off = plays_off_walls l valid.few _ p way.0 way.1 start in
    let whole = valid.board.whole in
    record { inside = omega (arith, stands.inside a there); unwalled = off.unwalled a there }
