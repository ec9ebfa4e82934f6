use Rattle.std.proofs.Common.{ℕ, replicate, rules, ap, arith}
use Rattle.std.specs.Prelude.{is_some}
use Rattle.std.proofs.lemmas.List.{length-replicate}
use Rattle.judgement.proofs.Lengths.{written_if_short}
use Rattle.bookkeeping.specs.inside.Replies.{reply_text}
use Rattle.bookkeeping.proofs.Short.{InBits, short_reply}
use Rattle.bookkeeping.proofs.reply.Reply.into_text.Goals as goal

pub unwrap-length-requires : goal.unwrap-length-requires
unwrap-length-requires c =
    let bits : InBits c.args.self = search rules in
    let short = short_reply c.args.self bits in
    ap is_some (written_if_short c.write_text.result (reply_text c.args.self) (replicate 32 0) c.write_text.ensures.answers
    (omega (arith, length-replicate {A = ℕ} 32 0)))
