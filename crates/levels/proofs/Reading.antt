-- A text is read as a level of any kind exactly where it is that level written out. Assumes nothing.
use Rattle.std.proofs.Common.{◌≡◌, ℕ, Bool, true, false, cond, List, Some, None, Ok, Err, Option, Result, codes, refl, ap, ◌∙◌, arith}
use Rattle.std.specs.Str.{bytes_eq}
use Rattle.refusals.specs.declared.Refusal.{Refusal}
use Rattle.text.specs.Reading.{map_ok}
use Rattle.text.specs.Forms.{first_keyword}
use Rattle.text.proofs.Cases.{clash}
use Rattle.tiles.specs.Level.{Tiles}
use Rattle.tiles.specs.LevelText.Reading as tile
use Rattle.tiles.proofs.LevelText.RoundTrip as tile_trip
use Rattle.atoms.specs.Level.{Atoms}
use Rattle.atoms.specs.LevelText.Reading as atom
use Rattle.atoms.proofs.LevelText.RoundTrip as atom_trip
use Rattle.levels.specs.Levels.{Level, tiles, atoms, level_text, Valid, kindless, level_by_keyword, read_level, ReadsExactly}

module _ (text : List ℕ) where
  only_tiles : (l : Level) (r : Result Tiles Refusal) → tile.read_level text ≡ r → map_ok tiles r ≡ Ok l → Valid l × (text ≡ level_text l)
  only_tiles (tiles t) (Ok u) read is =
      let same : u ≡ t = cc in
      (tile_trip.reads_exactly text).only t (read ∙ ap Ok same)
  only_tiles (atoms a) (Ok u) read is = absurd (let z : ◌≡◌ {A = ℕ} 0 1 = cc in omega arith)
  only_tiles l (Err e) read is = absurd (clash l e is)

  only_atoms : (l : Level) (r : Result Atoms Refusal) → atom.read_level text ≡ r → map_ok atoms r ≡ Ok l → Valid l × (text ≡ level_text l)
  only_atoms (atoms a) (Ok u) read is =
      let same : u ≡ a = cc in
      (atom_trip.reads_exactly text).only a (read ∙ ap Ok same)
  only_atoms (tiles t) (Ok u) read is = absurd (let z : ◌≡◌ {A = ℕ} 0 1 = cc in omega arith)
  only_atoms l (Err e) read is = absurd (clash l e is)

  only_keyword : (l : Level) (is_tiles is_atoms : Bool) → cond is_tiles (map_ok tiles (tile.read_level text)) (cond is_atoms (map_ok atoms (atom.read_level text)) (Err (kindless text))) ≡ Ok l → Valid l × (text ≡ level_text l)
  only_keyword l true b is = only_tiles l (tile.read_level text) refl is
  only_keyword l false true is = only_atoms l (atom.read_level text) refl is
  only_keyword l false false is = absurd (clash l (kindless text) is)

  only : (l : Level) (keyword : Option (List ℕ)) → level_by_keyword keyword text ≡ Ok l → Valid l × (text ≡ level_text l)
  only l (Some keyword) is = only_keyword l (bytes_eq keyword (codes "tiles")) (bytes_eq keyword (codes "atomix")) is
  only l None is = absurd (clash l (kindless text) is)

-- the keyword of a level written out tells its kind
all : (l : Level) → Valid l → read_level (level_text l) ≡ Ok l
all (tiles t) valid =
    let text = level_text (tiles t) in
    ap (λ keyword. level_by_keyword keyword text) (tile_trip.keyword_of_text t valid) ∙ ap (map_ok tiles) ((tile_trip.reads_exactly text).all t valid)
all (atoms a) valid =
    let text = level_text (atoms a) in
    ap (λ keyword. level_by_keyword keyword text) (atom_trip.keyword_of_text a valid) ∙ ap (map_ok atoms) ((atom_trip.reads_exactly text).all a valid)

pub reads_exactly : (text : List ℕ) → ReadsExactly text
reads_exactly text = record { only = λ l is. only text l (first_keyword text) is; all = all }
