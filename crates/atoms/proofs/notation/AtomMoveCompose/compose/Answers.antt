-- The texts, one after the other, are the line.
use Rattle.text.proofs.Pens.{writes_more}
use Rattle.atoms.specs.laws.Spelling.{in_parts}
use Rattle.atoms.proofs.notation.AtomMoveCompose.compose.Goals as goal

pub returns : goal.returns
returns c =
    rw (in_parts c.args.self.now)
    (writes_more c.put.ensures.wrote (writes_more c.put_decimal.ensures.wrote (writes_more c.put-2.ensures.wrote
    (writes_more c.put_decimal-2.ensures.wrote (writes_more c.put-3.ensures.wrote
    (writes_more (rw c.word.ensures.named at c.put-4.ensures.wrote) c.put-5.ensures.wrote))))))
