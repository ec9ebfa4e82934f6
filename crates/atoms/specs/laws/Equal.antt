-- Positions that `==` calls equal are the same. Assumes nothing.
use Rattle.std.specs.Prelude.{◌≡◌, IsTrue}
use Rattle.std.proofs.Common.{rules}
use Rattle.atoms.specs.declared.position.Position.{Position}
use Rattle.atoms.specs.contracts.position.PositionPartialEq.TheImpl

pub same_positions : (one other : Position) → IsTrue (TheImpl.ghosts.eq one other) → one ≡ other
same_positions one other e = search rules
