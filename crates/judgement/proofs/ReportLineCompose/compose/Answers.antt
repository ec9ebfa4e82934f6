-- The texts, one after the other, are the report's.
use Rattle.std.proofs.Common.{sym, ap}
use Rattle.text.proofs.Pens.{writes_more, writes_as}
use Rattle.judgement.specs.Judgement.{report_text}
use Rattle.judgement.proofs.ReportLineCompose.compose.Goals as goal

pub returns-in-Ok : goal.returns-in-Ok
returns-in-Ok c = writes_as (sym (ap report_text c.in-Ok.is)) (writes_more c.put.ensures.wrote (writes_more c.put_decimal.ensures.wrote c.put-in-Ok.ensures.wrote))

pub returns-in-Err : goal.returns-in-Err
returns-in-Err c = writes_as (sym (ap report_text c.in-Err.is)) (writes_more c.compose.ensures c.put-in-Err.ensures.wrote)
