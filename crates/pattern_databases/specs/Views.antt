-- What a book shows: its level and its bytes. Assumes nothing.
use Rattle.std.specs.Prelude.{ℕ, List}
use Rattle.atoms.specs.declared.level.AtomLevel.{AtomLevel}
use Rattle.pattern_databases.specs.declared.book.Book.{Book}

abbrev pub level_of : Book → AtomLevel
level_of book = book.layout.level.now

abbrev pub bytes_of : Book → List ℕ
bytes_of book = book.bytes.now
