use Rattle.std.proofs.lemmas.Result.{err_from_is_err_and}
use Rattle.text.proofs.Taking.{line_taken, line_refused}
use Rattle.text.proofs.reader.read_lines.Goals as goal

pub returns-in_err-take : goal.returns-in_err-take
returns-in_err-take g c =
    let p = err_from_is_err_and c.from_residual.result c.from_residual.ensures.1 in
    rw (p.1, p.2)
    (c.loop-number.invariant.2 _ (line_refused g.R.LineReader.Takes _ c.loop-number.lines c.next.new.self c.in-Some.number c.in-Some.line c.in-Some.ensures.steps _ c.in_err-take.ensures))

pub loop-number-preserved : goal.loop-number-preserved
loop-number-preserved g c =
    let step = c.in-Some.ensures.steps in (
      tt,
      tt,
      λ r more. c.loop-number.invariant.2 r (line_taken g.R.LineReader.Takes _ c.loop-number.lines c.next.new.self c.in-Some.number c.in-Some.line step _ c.in_ok-take.ensures r more),
    )
