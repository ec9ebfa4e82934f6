-- Answers that are no way, as texts. Assumes nothing.
use Rattle.std.specs.Prelude.{ℕ, List}
use Rattle.refusals.specs.Refusals.{refusal_line}
use Rattle.answers.specs.declared.reply.Reply.{Reply}
use Rattle.answers.specs.declared.reply.Reply.TheVariants.{NoWay, TooMany, Refused}
use Rattle.answers.specs.Answers.{none_text, full_text}

abbrev pub reply_text : Reply → List ℕ
reply_text NoWay = none_text
reply_text TooMany = full_text
reply_text (Refused e) = refusal_line e
