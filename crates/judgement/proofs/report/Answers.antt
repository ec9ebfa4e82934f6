use Rattle.std.proofs.Common.{rules, ap, arith}
use Rattle.std.specs.Prelude.{is_some}
use Rattle.judgement.specs.Judgement.{report_text}
use Rattle.judgement.proofs.Lengths.{InBits, short_report, written_if_short}
use Rattle.judgement.proofs.report.Goals as goal

pub unwrap-length-requires : goal.unwrap-length-requires
unwrap-length-requires c =
    let bits : InBits c.args.judgement = search rules in
    ap is_some (written_if_short c.write_text.result (report_text c.args.judgement) c.args.buffer.now c.write_text.ensures.answers (let short = short_report c.args.judgement bits in omega arith))
