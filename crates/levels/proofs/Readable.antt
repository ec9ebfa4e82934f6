-- The moves of a level of any kind are written as the law of notations asks. Assumes nothing.
use Rattle.tiles.specs.laws.Readable as tile
use Rattle.atoms.specs.laws.Readable as atom
use Rattle.ways.specs.Notations.{Lawful}
use Rattle.levels.specs.Levels.{Level, tiles, atoms, rules, Valid}

pub readable : (l : Level) → Valid l → Lawful (rules l).meaning.game (rules l).spelling
readable (tiles l) valid = tile.readable l
readable (atoms l) valid = atom.readable_where_valid l valid
