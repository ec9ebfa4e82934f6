use Rattle.std.proofs.Common.{◌≡◌, ◌≤◌, sym, ap, ◌∙◌, subst, arith}
use Rattle.std.specs.Prelude.{IfOk}
use Rattle.atoms.specs.Level.{atoms}
use Rattle.pattern_databases.specs.Layout.{book_length}
use Rattle.pattern_databases.specs.Books.{Filled}
use Rattle.pattern_databases.specs.Views.{level_of, bytes_of}
use Rattle.levels.specs.Levels.{Rules, level_value, searched, book_bytes}
use Rattle.levels.proofs.BookSearch.{searched_with}
use Rattle.levels.proofs.level.Level.accept_for_search.Goals as goal

pub returns-in-Some : goal.returns-in-Some
returns-in-Some g c =
    let level = c.in-Atoms.level in
    let Is : Rules → Type 0 = λ rules. g.V.TableVisitor.Gives c.args.visitor rules c.visit-in-Atoms.result in
    let filled = subst (λ r. IfOk r (λ book. (level_of book ≡ level) × Filled (atoms level) (bytes_of book)))
    c.unwrap-book.ensures c.fill.ensures.filled in
    let there = c.in-Some.ensures.lookup in
    let short : book_length (atoms level) ≤ book_bytes = omega (arith, c.length.ensures, there.0.1) in
    let same = ap (λ b. b.book) c.new-in-Atoms.ensures ∙ c.new.ensures in
    subst (λ s. searched (level_value s) Is) (sym c.in-Atoms.is)
    (searched_with Is level c.unwrap-book.result _ same filled.0 filled.1 short c.visit-in-Atoms.ensures)
