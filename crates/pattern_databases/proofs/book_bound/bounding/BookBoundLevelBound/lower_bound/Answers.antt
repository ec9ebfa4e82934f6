use Rattle.atoms.specs.Level.{atoms}
use Rattle.atoms.specs.laws.Levels.{level_valid}
use Rattle.pattern_databases.specs.laws.Standing.{reached_free}
use Rattle.pattern_databases.proofs.book_bound.bounding.BookBoundLevelBound.lower_bound.Goals as goal

pub returns : goal.returns
returns c reached =
    let level = c.args.self.now.book.layout.level.now in
    c.bound.ensures (reached_free (atoms level) (level_valid level) c.args.at.now reached)
