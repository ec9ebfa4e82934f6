use Rattle.std.proofs.Common.{◌≡◌}
use Rattle.atoms.specs.Level.{atoms}
use Rattle.pattern_databases.specs.inside.Bounds.{sum_at}
use Rattle.pattern_databases.proofs.Summing.{least_before}
use Rattle.pattern_databases.proofs.book_bound.BookBound.least_sum.Given as goal

abbrev pub invariant-loop-place : goal.invariant-loop-place
invariant-loop-place l =
    l.least ≡ least_before (sum_at (atoms l.self.book.layout.level.now) l.self.book.bytes.now l.entries) l.place
