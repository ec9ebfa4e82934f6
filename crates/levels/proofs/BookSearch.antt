-- An atom level is searched with a book that is its own, filled. Assumes nothing.
use Rattle.std.proofs.Common.{◌≡◌, ◌≤◌, subst}
use Rattle.atoms.specs.declared.level.AtomLevel.{AtomLevel}
use Rattle.atoms.specs.Level.{atoms}
use Rattle.atoms.specs.WrittenMoves.{spelling}
use Rattle.pattern_databases.specs.declared.book.Book.{Book}
use Rattle.pattern_databases.specs.Layout.{book_length}
use Rattle.pattern_databases.specs.Books.{Filled}
use Rattle.pattern_databases.specs.Meaning.{meaning}
use Rattle.pattern_databases.specs.Views.{level_of, bytes_of}
use Rattle.levels.specs.Levels.{Rules, rules_of, Searched, with_book, book_bytes}

-- the rules of a level with a book
abbrev pub rules_with : AtomLevel → Book → Rules
rules_with level book = rules_of (meaning (atoms level) (bytes_of book)) (spelling (atoms level))

pub searched_with : (Is : Rules → Type 0) (level : AtomLevel) (book other : Book) → other ≡ book → level_of book ≡ level
    → Filled (atoms level) (bytes_of book) → book_length (atoms level) ≤ book_bytes → Is (rules_with (level_of other) other)
    → Searched (atoms level) (λ m. Is (rules_of m (spelling (atoms level))))
searched_with Is level book other same its filled short is =
    let of_book = subst (λ b. Is (rules_with (level_of b) b)) same is in
    with_book (bytes_of book) short filled (subst (λ l. Is (rules_with l book)) its of_book)
