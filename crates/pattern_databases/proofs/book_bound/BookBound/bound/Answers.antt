use Rattle.std.proofs.Common.{◌≡◌, length, take, sym, ap, ◌∙◌, subst}
use Rattle.atoms.specs.Level.{atoms, count}
use Rattle.pattern_databases.specs.Layout.{parts}
use Rattle.pattern_databases.specs.inside.Bounds.{Inside, least_sum}
use Rattle.pattern_databases.proofs.PartAtoms.{length_parts}
use Rattle.pattern_databases.proofs.Layouts.{part_count_is}
use Rattle.pattern_databases.proofs.Locating.{least_at_locations}
use Rattle.pattern_databases.proofs.book_bound.BookBound.bound.Goals as goal
use Rattle.pattern_databases.proofs.book_bound.BookBound.bound.Goals.{After-len}

-- as many entries as parts
many : (c : After-len) → c.len.result ≡ length (parts (atoms c.args.self.now.book.layout.level.now))
many c =
    let s = c.args.self.now.book.layout in
    c.len.ensures ∙ part_count_is s ∙ sym (length_parts (count (atoms s.level.now)))

pub least_sum-requires-clause-inside : goal.least_sum-requires-clause-inside
least_sum-requires-clause-inside c =
    let l = atoms c.args.self.now.book.layout.level.now in
    let few = many (goal.at.least_sum-requires-clause-inside c).After-len in
    subst (λ n. Inside l (take n c.entries-entries.result)) (sym few) c.entries-entries.ensures.inside

pub returns : goal.returns
returns c free =
    let l = atoms c.args.self.now.book.layout.level.now in
    let bytes = c.args.self.now.book.bytes.now in
    c.least_sum.ensures
    ∙ ap (λ n. least_sum l bytes (take n c.entries-entries.result)) (many (goal.at.returns c).After-len)
    ∙ ap (least_sum l bytes) (c.entries-entries.ensures.located free)
    ∙ least_at_locations l c.args.at.now bytes
