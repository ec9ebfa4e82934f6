use Rattle.std.specs.Slice.Iter.{chunks_rest, chunks_size}
use Rattle.text.specs.Lines.{join_lines}
use Rattle.pictures.specs.Pictures.{shape}
use Rattle.atoms.specs.LevelText.Writing.{picture_lines}
use Rattle.atoms.proofs.LevelText.Writing.{Owed}
use Rattle.atoms.proofs.level_text.writer.compose_picture.Given as goal

abbrev pub invariant-loop-row : goal.invariant-loop-row
invariant-loop-row l =
    Owed l.keyword (chunks_size l.row-iterator) (chunks_rest l.row-iterator) (join_lines (picture_lines l.keyword (shape l.picture))) l.initial.pen l.pen
