-- The three texts, one after the other, are the line.
use Rattle.text.proofs.Pens.{writes_more}
use Rattle.tiles.proofs.notation.write_direction.Goals as goal

pub returns : goal.returns
returns c = writes_more c.put.ensures.wrote (writes_more (rw c.word.ensures.named at c.put-2.ensures.wrote) c.put-3.ensures.wrote)
