use Rattle.std.proofs.Common.{arith}
use Rattle.slides.specs.Sets.{has}
use Rattle.slides.proofs.Bits.{one_more}
use Rattle.slides.proofs.cell_set.CellSet.insert.Goals as goal

pub returns : goal.returns
unfolding has
returns c =
    rw c.from-cell.ensures
    (one_more c.args.self.now.words c.args.cell (omega arith) (omega (arith, c.ranges.cell)))
