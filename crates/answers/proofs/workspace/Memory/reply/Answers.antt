use Rattle.std.proofs.Common.{◌≤◌, rules, ap, length, arith}
use Rattle.std.specs.Prelude.{is_some}
use Rattle.judgement.proofs.Lengths.{written_if_short}
use Rattle.answers.specs.inside.Replies.{reply_text}
use Rattle.answers.proofs.Telling.{InBits, short_reply}
use Rattle.answers.proofs.workspace.Memory.reply.Goals as goal

pub unwrap-length-requires : goal.unwrap-length-requires
unwrap-length-requires c =
    let bits : InBits c.args.reply = search rules in
    let short = short_reply c.args.reply bits in
    let room : 32 ≤ length c.deref_mut.result.now = omega (arith, c.args.self.now.roomy, c.deref_mut.ensures.len) in
    ap is_some (written_if_short c.write_text.result (reply_text c.args.reply) c.deref_mut.result.now c.write_text.ensures.answers (omega arith))
