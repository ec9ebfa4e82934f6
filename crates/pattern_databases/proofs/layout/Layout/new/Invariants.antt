use Rattle.pictures.specs.Pictures.{shape}
use Rattle.pattern_databases.proofs.Placements.{unwalled}
use Rattle.pattern_databases.proofs.Listing.{Listed}
use Rattle.pattern_databases.proofs.layout.Layout.new.Given as goal

abbrev pub invariant-loop-cell : goal.invariant-loop-cell
invariant-loop-cell l = Listed (unwalled (shape l.level.board)) l.cell l.cells l.numbers l.count
