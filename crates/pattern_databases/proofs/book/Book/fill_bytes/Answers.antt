use Rattle.std.proofs.Common.{subst}
use Rattle.atoms.specs.Level.{atoms}
use Rattle.atoms.specs.laws.Levels.{level_valid}
use Rattle.pattern_databases.specs.Books.{Filled}
use Rattle.pattern_databases.proofs.FilledPasses.{passes_filled}
use Rattle.pattern_databases.proofs.book.Book.fill_bytes.Goals as goal

pub returns-clause-passes : goal.returns-clause-passes
returns-clause-passes c is =
    let level = c.args.level.now in
    let bytes = c.fill.new.bytes in
    let filled = subst (λ l. Filled (atoms l) bytes) c.in_ok-layout.ensures.long.0 c.fill.ensures.filled in
    passes_filled (atoms level) (level_valid level) bytes filled
