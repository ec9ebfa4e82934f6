-- Answers of one line, as texts. Assumes nothing.
use Rattle.std.specs.Prelude.{ℕ, List}
use Rattle.refusals.specs.Refusals.{refusal_line}
use Rattle.bookkeeping.specs.declared.reply.Reply.{Reply}
use Rattle.bookkeeping.specs.declared.reply.Reply.TheVariants.{Passed, Bytes, Refused}
use Rattle.bookkeeping.specs.Answers.{passed_text, size_text}

abbrev pub reply_text : Reply → List ℕ
reply_text Passed = passed_text
reply_text (Bytes n) = size_text n
reply_text (Refused e) = refusal_line e
