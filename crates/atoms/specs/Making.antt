-- When a board and a molecule make a level, and why they make none. Assumes nothing.
use Rattle.std.specs.Prelude.{◌≡◌, Bool, cond, ◌&&◌, Ok, Err, Result, nat_le}
use Rattle.refusals.specs.declared.Fault.{Fault}
use Rattle.refusals.specs.Refusals.{fault}
use Rattle.pictures.specs.Pictures.{Shape}
use Rattle.molecules.specs.Atoms.{is_edged, atom_count, same_labels}
use Rattle.atoms.specs.Level.{Atoms, atoms_of, Valid}

-- there are 1 to 16 atoms, and each label is as often in the molecule as on the board
abbrev pub is_matched : Shape → Shape → Bool
is_matched b m = (nat_le 1 (atom_count b) && nat_le (atom_count b) 16) && same_labels b m

-- The level on a board that wants a molecule, or why there is none: an edge of the molecule may be bare, and then the
-- atoms may not match.
abbrev pub level_of : Shape → Shape → Result Atoms Fault
level_of b m = cond (is_edged m) (cond (is_matched b m) (Ok (atoms_of b m)) (Err (fault 17))) (Err (fault 16))

-- such a level is valid
abbrev pub MakesValid : Shape → Shape → Type 0
MakesValid b m = (l : Atoms) → level_of b m ≡ Ok l → Valid l
