-- The texts, one after the other, are the reply's.
use Rattle.std.proofs.Common.{sym, ap}
use Rattle.text.proofs.Pens.{writes_more, writes_as}
use Rattle.bookkeeping.specs.inside.Replies.{reply_text}
use Rattle.bookkeeping.proofs.reply.ReplyCompose.compose.Goals as goal

pub returns-in-Bytes : goal.returns-in-Bytes
returns-in-Bytes c =
    writes_as (sym (ap reply_text c.in-Bytes.is)) (writes_more c.put_decimal.ensures.wrote c.put-in-Bytes.ensures.wrote)

pub returns-in-Refused : goal.returns-in-Refused
returns-in-Refused c =
    writes_as (sym (ap reply_text c.in-Refused.is)) (writes_more c.compose.ensures c.put-in-Refused.ensures.wrote)
