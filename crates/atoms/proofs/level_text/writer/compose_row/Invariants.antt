use Rattle.std.proofs.Common.{map, drop}
use Rattle.pictures.specs.Cells.{symbol_of}
use Rattle.text.proofs.Pens.{Leads}
use Rattle.atoms.proofs.level_text.writer.compose_row.Given as goal

abbrev pub invariant-loop-cell : goal.invariant-loop-cell
invariant-loop-cell l = Leads (map symbol_of l.row) (map symbol_of (drop l.cell-index l.row)) l.initial.pen l.pen
