-- What a molecule with an atom in each edge row and each edge column has. Assumes nothing.
use Rattle.std.proofs.Common.{◌≡◌, ℕ, ◌-◌, ◌<◌, ◌≤◌, true, ◌&&◌, arith}
use Rattle.std.proofs.lemmas.Bool.{and_parts}
use Rattle.pictures.specs.Pictures.{Shape}
use Rattle.molecules.specs.Atoms.{is_atom_at, row_holds, column_holds, is_edged}
use Rattle.molecules.proofs.Below.{some_below_lem}

-- an atom in the top row
pub atom_on_top : (m : Shape) → is_edged m ≡ true → (c : ℕ) × (c < m.width) × (is_atom_at m 0 c ≡ true)
atom_on_top m e =
    let rows = (and_parts (row_holds m 0 && row_holds m (m.height - 1)) _ e).0 in
    some_below_lem m.width (λ k. is_atom_at m 0 k) (and_parts (row_holds m 0) _ rows).0

-- and one in the left column
pub atom_on_left : (m : Shape) → is_edged m ≡ true → (r : ℕ) × (r < m.height) × (is_atom_at m r 0 ≡ true)
atom_on_left m e =
    let columns = (and_parts _ (column_holds m 0 && column_holds m (m.width - 1)) e).1 in
    some_below_lem m.height (λ k. is_atom_at m k 0) (and_parts (column_holds m 0) _ columns).0

-- so it has a row
pub edged_has_row : (m : Shape) → is_edged m ≡ true → 1 ≤ m.height
edged_has_row m e = omega (arith, (atom_on_left m e).1)
