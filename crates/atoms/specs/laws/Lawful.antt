-- A bound of 0 is at most the length of every way to the finish. Assumes nothing.
use Rattle.std.specs.Prelude.{◌≡◌, ◌↔◌, true, nat_eq}
use Rattle.std.specs.Cmp.Lexicographic.{pointwise}
use Rattle.std.proofs.Common.{refl, ap, arith}
use Rattle.std.proofs.lemmas.Slice.Eq.{bytes_eq-Decides}
use Rattle.puzzle.specs.Meaning.{Lawful}
use Rattle.puzzle.specs.Consistent.{Consistent}
use Rattle.puzzle.proofs.Consistent.{consistent_distance, consistent_admissible, consistent_dead}
use Rattle.atoms.specs.declared.position.Position.{Position}
use Rattle.atoms.specs.Level.{Atoms, position_of}
use Rattle.atoms.specs.Meaning.{meaning}

pub consistent : (l : Atoms) → Consistent (meaning l)
consistent l = consistent_distance (meaning l) (λ _. 0) (λ _. refl) (λ _ _. refl) (λ _ _ _. omega arith)

-- positions with the same cells are the same
alike : (p q : Position) → (pointwise nat_eq p.cells q.cells ≡ true) ↔ (p ≡ q)
alike p q =
    let decides = bytes_eq-Decides p.cells q.cells in
    (λ same. ap position_of (decides.0 same), λ same. decides.1 (ap (λ r. r.cells) same))

pub lawful : (l : Atoms) → Lawful (meaning l)
lawful l = record {
  some = omega arith;
  few = omega arith;
  admissible = consistent_admissible (meaning l) (consistent l);
  dead = consistent_dead (meaning l) (consistent l);
  alike = λ p q _ _. alike p q;
}
