-- How long a reply is at most. Assumes nothing.
use Rattle.std.proofs.Common.{◌^◌, ◌<◌, ◌≤◌, length, decimal, lit≤, arith}
use Rattle.std.specs.Prelude.{⊤}
use Rattle.std.proofs.lemmas.Fmt.{length-decimal-le}
use Rattle.std.proofs.lemmas.List.{length-append}
use Rattle.judgement.proofs.Lengths.{short_refusal}
use Rattle.bookkeeping.specs.declared.reply.Reply.{Reply}
use Rattle.bookkeeping.specs.declared.reply.Reply.TheVariants.{Passed, Bytes, Refused}
use Rattle.bookkeeping.specs.inside.Replies.{reply_text}

-- a reply as the code holds it, in 64 bits
abbrev pub InBits : Reply → Type 0
InBits Passed = ⊤
InBits (Bytes n) = n < 2 ^ 64
InBits (Refused e) = e.line < 2 ^ 64

pub short_reply : (r : Reply) → InBits r → length (reply_text r) ≤ 32
short_reply Passed bits = lit≤ tt
short_reply (Bytes n) bits =
    let digits : length (decimal n) ≤ 20 = length-decimal-le 20 n (omega arith) (omega arith) bits in
    simp length-append (omega arith)
short_reply (Refused e) bits = short_refusal e bits
