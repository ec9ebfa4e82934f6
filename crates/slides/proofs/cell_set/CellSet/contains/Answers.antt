use Rattle.std.proofs.Common.{sym, ◌∙◌}
use Rattle.std.proofs.lemmas.Bool.{cond-true, cond-false, lt-ltb, le-ltb}
use Rattle.slides.specs.Sets.{has}
use Rattle.slides.proofs.Bits.{bit_masked}
use Rattle.slides.proofs.cell_set.CellSet.contains.Goals as goal

pub returns-then-cell : goal.returns-then-cell
unfolding has
returns-then-cell c = bit_masked _ _ ∙ sym (cond-true _ _ _ (lt-ltb _ 256 c.if-cell.true))

pub returns-else-cell : goal.returns-else-cell
unfolding has
returns-else-cell c = let past = le-ltb _ 256 c.if-cell.false in past ∙ sym (cond-false _ _ _ past)
