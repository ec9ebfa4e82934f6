use Rattle.slides.specs.Sets.{has}
use Rattle.slides.proofs.Bits.{none_in}
use Rattle.slides.proofs.cell_set.CellSetDefault.default.Goals as goal

pub returns : goal.returns
unfolding has
returns c = none_in
