use Rattle.std.proofs.Common.{Some, sym, ap, ◌∙◌}
use Rattle.text.specs.Reading.{map_ok}
use Rattle.tiles.specs.Level.{tiles}
use Rattle.tiles.specs.LevelText.Reading.{level_at_end}
use Rattle.tiles.specs.LevelText.Reader.{view}
use Rattle.tiles.proofs.LevelText.Judging.{level_judged}
use Rattle.tiles.proofs.level_text.reader.ReaderLevelReader.level.Goals as goal

pub returns : goal.returns
returns c =
    ap (λ r. Some (map_ok tiles r)) c.ok_or.ensures.value
    ∙ level_judged c.in-End.board c.new.result c.new.ensures
    ∙ ap (λ r. level_at_end (view r)) (sym c.in-End.is)
