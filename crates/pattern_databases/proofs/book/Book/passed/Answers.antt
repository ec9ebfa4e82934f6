use Rattle.std.proofs.Common.{sym, subst}
use Rattle.atoms.specs.Level.{atoms}
use Rattle.pattern_databases.specs.Books.{Passes}
use Rattle.pattern_databases.proofs.book.Book.passed.Goals as goal

pub invariant_of-result : goal.invariant_of-result
invariant_of-result c = record {
  passes = subst (λ level. Passes (atoms level) c.args.bytes.now) (sym c.new-layout.ensures) c.requires;
}
