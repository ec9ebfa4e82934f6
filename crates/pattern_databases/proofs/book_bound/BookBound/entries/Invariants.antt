use Rattle.atoms.specs.Level.{atoms}
use Rattle.pattern_databases.proofs.Locating.{Located}
use Rattle.pattern_databases.proofs.book_bound.BookBound.entries.Given as goal

abbrev pub invariant-loop-part : goal.invariant-loop-part
invariant-loop-part l = Located (atoms l.self.book.layout.level.now) l.at l.part l.entries
