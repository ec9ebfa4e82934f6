-- Cells that `==` calls equal are the same. Assumes nothing.
use Rattle.std.specs.Prelude.{◌≡◌, IsTrue}
use Rattle.std.proofs.Common.{refl, rules}
use Rattle.std.proofs.lemmas.Bool.{false≢true}
use Rattle.pictures.specs.declared.cell.Cell.{Cell}
use Rattle.pictures.specs.declared.cell.Cell.TheVariants.{Wall, Free, Atom}
use Rattle.pictures.specs.contracts.cell.CellPartialEq.TheImpl

pub same_cells : (one other : Cell) → IsTrue (TheImpl.ghosts.eq one other) → one ≡ other
same_cells Wall Wall e = refl
same_cells Free Free e = refl
same_cells (Atom label) (Atom k) e = search rules
same_cells _ _ e = absurd (false≢true e)
