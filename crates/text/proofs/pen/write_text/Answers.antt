-- The measuring pen overflowed, or both pens wrote the text.
use Rattle.std.proofs.Common.{rules}
use Rattle.text.proofs.Pens.{write_text_none, write_text_some}
use Rattle.text.proofs.pen.write_text.Goals as goal

pub returns-then-has_overflowed : goal.returns-then-has_overflowed
returns-then-has_overflowed g c =
    let r = write_text_none c.args.out.now c.measuring-measure.ensures c.compose.ensures.wrote c.if-has_overflowed.ensures in
    record { after = r.0; answers = r.1 }

pub returns : goal.returns
returns g c =
    let r = write_text_some c.args.out.now c.measuring-measure.ensures c.compose.ensures.wrote c.if-has_overflowed.ensures c.new-pen.ensures.fresh c.compose-2.ensures.wrote c.room.ensures in
    let same = c.compose-2.ensures.same in
    record { after = search rules; answers = r.1 }
