use Rattle.std.proofs.Common.{ap, ◌∙◌, subst}
use Rattle.std.specs.Prelude.{IfErr, is_ok}
use Rattle.refusals.specs.Refusals.{refusal_line}
use Rattle.atoms.specs.Level.{atoms}
use Rattle.pattern_databases.specs.Books.{Fails}
use Rattle.bookkeeping.specs.Answers.{passed, failed}
use Rattle.bookkeeping.specs.inside.Replies.{reply_text}
use Rattle.bookkeeping.proofs.commands.tested.Goals.{in-Ok, in-Err}
use Rattle.bookkeeping.proofs.commands.tested.Goals as goal

pub returns : goal.returns
returns c =
    let l = atoms c.args.level.now in
    elim c.match-test.branch [
      | in-Ok w ↦ passed (c.test.ensures.passes (ap is_ok w.in-Ok.is)) (ap reply_text w.result-is)
      | in-Err w ↦
          failed w.in-Err.fault (subst (λ r. IfErr r (Fails l c.args.bytes.now)) w.in-Err.is c.test.ensures.refused)
          (ap reply_text w.result-is ∙ ap refusal_line w.at.ensures)
    ]
