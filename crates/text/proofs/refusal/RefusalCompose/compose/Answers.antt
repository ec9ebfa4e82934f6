-- The texts, one after the other, are the refusal's.
use Rattle.text.proofs.Pens.{writes_more}
use Rattle.text.proofs.refusal.RefusalCompose.compose.Goals as goal

pub returns : goal.returns
returns c =
    writes_more c.put.ensures.wrote (writes_more (rw c.from.ensures.number_is at c.put_decimal.ensures.wrote) (writes_more c.put-2.ensures.wrote
    (writes_more c.put_decimal-2.ensures.wrote c.put-3.ensures.wrote)))
