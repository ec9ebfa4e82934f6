use Rattle.std.proofs.Common.{◌≡◌, ◌+◌, length, take, drop}
use Rattle.pictures.specs.Cells.{cells_of}
use Rattle.pictures.specs.Pictures.{shape}
use Rattle.pictures.proofs.Rows.{behind}
use Rattle.pictures.proofs.picture.Picture.with_row.Given as goal

abbrev pub invariant-loop-column : goal.invariant-loop-column
invariant-loop-column l =
    (behind (take (l.first + l.column) l.cells) (cells_of (drop l.column l.row)) ≡ behind (shape l.self).cells (cells_of l.row))
    × (length l.cells ≡ 256)
