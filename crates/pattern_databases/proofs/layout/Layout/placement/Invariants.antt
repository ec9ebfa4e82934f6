use Rattle.pictures.specs.Pictures.{shape}
use Rattle.pattern_databases.proofs.Placements.{Unpacked}
use Rattle.pattern_databases.proofs.layout.Layout.placement.Given as goal

abbrev pub invariant-loop-atom : goal.invariant-loop-atom
invariant-loop-atom l = Unpacked (shape l.self.level.now.board) l.size l.number l.cells l.rest l.atom
