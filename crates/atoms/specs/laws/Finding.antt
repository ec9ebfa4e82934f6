-- The atom on a row and a column of the board. Assumes nothing.
use Rattle.std.proofs.Common.{◌≡◌, ℕ, ◌<◌, eqb, List, length, get_or, take, Some, None, Option, option_and_then, ap, ◌∙◌, arith}
use Rattle.std.specs.List.{position_or_len}
use Rattle.std.proofs.lemmas.List.{length-take}
use Rattle.std.proofs.lemmas.List.Quantifiers.{position-Some}
use Rattle.std.proofs.lemmas.List.Sums.{position_or_len_is}
use Rattle.std.proofs.lemmas.Bool.{cond-true, lt-ltb, eq-eqb, ne_eqb}
use Rattle.grid.specs.declared.Coordinates.{Coordinates}
use Rattle.grid.specs.Grid.{cell_at}
use Rattle.atoms.specs.declared.level.AtomLevel.{AtomLevel}
use Rattle.atoms.specs.declared.position.Position.{Position}
use Rattle.atoms.specs.Level.{Atoms, atoms, count}
use Rattle.atoms.specs.Moves.{atom_on, atom_at}
use Rattle.atoms.specs.laws.Levels.{level_valid}

module _ (l : Atoms) (p : Position) where
  -- the cells on which the atoms stand
  abbrev pub standing : List ℕ
  standing = take (count l) p.cells

  -- the atom is the first that stands there
  pub found_first : (at : Coordinates) (cell a : ℕ) → cell_at l.board.width l.board.height at ≡ Some cell → a < length standing → get_or standing a 0 ≡ cell → ((b : ℕ) → b < a → get_or standing b 0 ≡ cell → ⊥) → atom_at l p at ≡ Some a
  found_first at cell a on there here before =
      let first : position_or_len (λ k. eqb k cell) standing ≡ a = position_or_len_is (λ k. eqb k cell) standing a 0 (omega arith) (λ b less. ne_eqb _ cell (before b less)) (λ _. eq-eqb _ cell here) in
      ap (option_and_then (atom_on l p)) on
      ∙ cond-true _ _ _ (lt-ltb (position_or_len (λ k. eqb k cell) standing) (length standing) (omega arith))
      ∙ ap Some first

  -- and an atom of the level
  pub atom_at_below : (at : Coordinates) (a : ℕ) → atom_at l p at ≡ Some a → a < count l
  atom_at_below at a e = by (cell_at l.board.width l.board.height at) e
    where
      by : (o : Option ℕ) → option_and_then (atom_on l p) o ≡ Some a → a < count l
      by (Some cell) e = omega (arith, (position-Some (λ k. eqb k cell) standing a 0 e).0, length-take (count l) p.cells)
      by None e = cc

-- an atom that is found has a small number
pub few_atoms : (l : AtomLevel) (p : Position) (at : Coordinates) (a : ℕ) → atom_at (atoms l) p at ≡ Some a → a < 16
few_atoms l p at a e = omega (arith, (level_valid l).few, atom_at_below (atoms l) p at a e)
