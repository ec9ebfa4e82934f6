use Rattle.std.proofs.Common.{sym, ap}
use Rattle.text.proofs.Pens.{writes_more, writes_as}
use Rattle.answers.specs.inside.Replies.{reply_text}
use Rattle.answers.proofs.reply.ReplyCompose.compose.Goals as goal

pub returns-in-Refused : goal.returns-in-Refused
returns-in-Refused c = writes_as (sym (ap reply_text c.in-Refused.is)) (writes_more c.compose.ensures c.put-in-Refused.ensures.wrote)
