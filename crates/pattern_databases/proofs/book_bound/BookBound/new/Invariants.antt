use Rattle.std.proofs.Common.{◌≡◌, ℕ, ◌<◌, length, get_or}
use Rattle.atoms.specs.Level.{atoms}
use Rattle.pattern_databases.specs.Layout.{first_blocks}
use Rattle.pattern_databases.proofs.book_bound.BookBound.new.Given as goal

abbrev pub invariant-loop-part : goal.invariant-loop-part
invariant-loop-part l = record {
  long : length l.starts ≡ 16;
  whole : l.place_length ≡ first_blocks (atoms l.layout.level.now) l.part;
  started : (j : ℕ) → j < l.part → get_or l.starts j 0 ≡ first_blocks (atoms l.layout.level.now) j;
}
