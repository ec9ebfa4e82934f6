use Rattle.std.proofs.Common.{rules}
use Rattle.judgement.proofs.Reporting.{reports_all}
use Rattle.judgement.proofs.streaming.judge_streams.Goals as goal

pub returns-clause-reports : goal.returns-clause-reports
returns-clause-reports g c =
    reports_all _ _ c.in_ok-level_text.level_text.items c.in_ok-way_text.way_text.items c.report.result.now _ _ c.write_answer.result
    c.in_ok-level_text.ensures.all c.in_ok-way_text.ensures.all (search rules) c.write_answer.ensures.written
