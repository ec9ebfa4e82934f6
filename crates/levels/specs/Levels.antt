-- Levels of every kind: which kind a text is of, how a level is written, the puzzle that it is and how its moves are
-- written. Assumes nothing.
use Rattle.std.specs.Prelude.{ℕ, ◌<◌, ◌≤◌, cond, List, Some, None, Err, codes, Option, Result}
use Rattle.std.specs.Str.{bytes_eq}
use Rattle.refusals.specs.declared.Refusal.{Refusal}
use Rattle.refusals.specs.Refusals.{refused}
use Rattle.puzzle.specs.Meaning.{Meaning}
use Rattle.text.specs.Lines.{is_text}
use Rattle.text.specs.Reading.{map_ok}
use Rattle.text.specs.Forms.{first_keyword}
use Rattle.text.specs.LevelReading as reading
use Rattle.ways.specs.Notations.{Spelling}
use Rattle.tiles.specs.Level as tile
use Rattle.tiles.specs.Meaning as tile_meaning
use Rattle.tiles.specs.WrittenMoves as tile_moves
use Rattle.tiles.specs.LevelText.Writing as tile_text
use Rattle.tiles.specs.LevelText.Reading as tile_reading
use Rattle.atoms.specs.declared.position.Position.{Position}
use Rattle.atoms.specs.Level as atom
use Rattle.atoms.specs.Meaning as atom_meaning
use Rattle.atoms.specs.WrittenMoves as atom_moves
use Rattle.atoms.specs.LevelText.Writing as atom_text
use Rattle.atoms.specs.LevelText.Reading as atom_reading
use Rattle.pattern_databases.specs.Layout as book_layout
use Rattle.pattern_databases.specs.Books as book
use Rattle.pattern_databases.specs.Meaning as booked
use Rattle.levels.specs.declared.level.Level as code
use Rattle.levels.specs.declared.level.Level.TheVariants as coded

-- what a puzzle means and how its moves are written, whatever its positions are
pub record Rules : Type 1 where
  pub Position : Type 0
  pub Written : Type 0
  pub meaning : Meaning Position
  pub spelling : Spelling Position Written

abbrev pub rules_of : {P W : Type 0} → Meaning P → Spelling P W → Rules
rules_of {P} {W} m k = record { Position = P; Written = W; meaning = m; spelling = k }

pub data Level : Type 0 where
  tiles : tile.Tiles → Level
  atoms : atom.Atoms → Level

-- what depends on a level's kind
pub record Kind : Type 1 where
  -- the level written out
  pub text : List ℕ
  -- what makes it a level
  pub Valid : Type 0
  pub rules : Rules
  -- something is so by the rules of the puzzle that is searched for it
  pub searched : (Rules → Type 0) → Type 0

-- how many bytes the book of a level may have that is searched with it
abbrev pub book_bytes : ℕ
book_bytes = 32768

-- something is so by what an atom level means to its search: with the bound of its book, filled, if that is no longer,
-- and else bare
pub data Searched (l : atom.Atoms) (Is : Meaning Position → Type 0) : Type 0 where
  with_book : (bytes : List ℕ) → book_layout.book_length l ≤ book_bytes → book.Filled l bytes
      → Is (booked.meaning l bytes) → Searched l Is
  bare : book_bytes < book_layout.book_length l → Is (atom_meaning.meaning l) → Searched l Is

-- the one place where kinds are told apart
abbrev pub kind : Level → Kind
kind (tiles l) = record {
  text = tile_text.level_text l;
  Valid = tile.Valid l;
  rules = rules_of (tile_meaning.meaning l) (tile_moves.spelling l);
  searched = λ Is. Is (rules_of (tile_meaning.meaning l) (tile_moves.spelling l));
}
kind (atoms l) = record {
  text = atom_text.level_text l;
  Valid = atom.Valid l;
  rules = rules_of (atom_meaning.meaning l) (atom_moves.spelling l);
  searched = λ Is. Searched l (λ m. Is (rules_of m (atom_moves.spelling l)));
}

abbrev pub level_text : Level → List ℕ
level_text l = (kind l).text

abbrev pub Valid : Level → Type 0
Valid l = (kind l).Valid

abbrev pub rules : Level → Rules
rules l = (kind l).rules

abbrev pub searched : Level → (Rules → Type 0) → Type 0
searched l = (kind l).searched

-- why a text is no level that begins with the keyword of no kind
abbrev pub kindless : List ℕ → Refusal
kindless text = cond (is_text text) (refused 12 1) (refused 11 0)

-- by the keyword of the first line
abbrev pub level_by_keyword : Option (List ℕ) → List ℕ → Result Level Refusal
level_by_keyword (Some keyword) text =
    cond (bytes_eq keyword (codes "tiles")) (map_ok tiles (tile_reading.read_level text))
    (cond (bytes_eq keyword (codes "atomix")) (map_ok atoms (atom_reading.read_level text)) (Err (kindless text)))
level_by_keyword None text = Err (kindless text)

-- the level that a text spells, or why it spells none
abbrev pub read_level : List ℕ → Result Level Refusal
read_level text = level_by_keyword (first_keyword text) text

abbrev pub level_value : code.Level → Level
level_value (coded.Tiles l) = tiles (tile.tiles l)
level_value (coded.Atoms l) = atoms (atom.atoms l)

-- a text is read as a level exactly where it is that level written out
abbrev pub ReadsExactly : List ℕ → Type 0
ReadsExactly text = reading.ReadsExactly read_level Valid level_text text
