-- An atom level as a puzzle without a bound. Assumes nothing.
use Rattle.std.specs.Prelude.{Some, nat_eq}
use Rattle.std.specs.List.{fold}
use Rattle.std.specs.Cmp.Lexicographic.{pointwise}
use Rattle.puzzle.specs.Meaning.{Meaning}
use Rattle.puzzle.specs.Keys.{sum_with, key_of}
use Rattle.atoms.specs.declared.position.Position.{Position}
use Rattle.atoms.specs.Level.{Atoms, game}

abbrev pub meaning : Atoms → Meaning Position
meaning l = record {
  game = game l;
  lower_bound = λ _. Some 0;
  key = λ p. key_of (fold sum_with 0 p.cells);
  same = λ p q. pointwise nat_eq p.cells q.cells;
}
