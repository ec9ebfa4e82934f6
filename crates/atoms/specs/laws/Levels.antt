-- Every level is valid. Assumes nothing.
use Rattle.std.proofs.Common.{◌≡◌, ◌*◌, ◌≤◌, length, ap, ◌∙◌, ⊎_elim, mul-zero, arith}
use Rattle.std.proofs.lemmas.List.Sums.{count_by-le-length}
use Rattle.std.proofs.lemmas.Bool.{cases_lt}
use Rattle.pictures.specs.declared.picture.Picture.{Picture}
use Rattle.pictures.specs.Cells.{Lettered}
use Rattle.pictures.specs.Pictures.{Shape, shape}
use Rattle.pictures.proofs.Shapes.{some_wide, wide_at_most, high_at_most, length_cells, lettered_cells}
use Rattle.molecules.specs.Atoms.{is_atom, atom_count}
use Rattle.molecules.specs.Molecules.{molecule_shape}
use Rattle.molecules.proofs.Edges.{edged_has_row}
use Rattle.atoms.specs.declared.level.AtomLevel.{AtomLevel}
use Rattle.atoms.specs.Level.{Drawn, Valid, atoms}

-- what every picture shows, also one with no row yet
pub record Framed (s : Shape) : Type 0 where
  pub wide : (1 ≤ s.width) × (s.width ≤ 16)
  pub high : s.height ≤ 16
  pub whole : length s.cells ≡ s.width * s.height
  pub lettered : Lettered s.cells

pub framed : (p : Picture) → Framed (shape p)
framed p = record {
  wide = (some_wide p, wide_at_most p);
  high = high_at_most p;
  whole = length_cells p;
  lettered = lettered_cells p;
}

-- with a row it is drawn
pub framed_drawn : (s : Shape) → Framed s → 1 ≤ s.height → Drawn s
framed_drawn s f some =
    record { wide = f.wide; high = (some, f.high); whole = f.whole; lettered = f.lettered }

-- a picture with an atom has a row
pub atom_high : (s : Shape) → length s.cells ≡ s.width * s.height → 1 ≤ atom_count s → 1 ≤ s.height
atom_high s whole some =
    ⊎_elim (λ high. high)
    (λ low. absurd
    (let none : s.height ≡ 0 = omega arith in
    let empty = whole ∙ ap (λ h. s.width * h) none ∙ mul-zero s.width in
    omega (arith, count_by-le-length is_atom s.cells)))
    (cases_lt 0 s.height)

-- every level is valid
pub level_valid : (l : AtomLevel) → Valid (atoms l)
level_valid l =
    let board = framed l.board in
    let some : 1 ≤ atom_count (shape l.board) = omega (arith, l.counted) in
    record {
      board = framed_drawn _ board (atom_high _ board.whole some);
      molecule = framed_drawn _ (framed l.molecule.picture) (edged_has_row (molecule_shape l.molecule) l.edges);
      unwalled = l.molecule.unwalled;
      edges = l.edges;
      some = some;
      few = omega (arith, l.counted);
      matched = l.matched;
    }
