use Rattle.std.proofs.Common.{ap, ◌∙◌}
use Rattle.std.proofs.lemmas.Result.{err_from_is_err_and}
use Rattle.text.specs.Lines.{bytes}
use Rattle.ways.specs.inside.Passing.{pass, conclusion}
use Rattle.ways.proofs.Pass.{text_passes}
use Rattle.ways.proofs.Accepting.{accepts_exactly, accepts_solutions}
use Rattle.ways.proofs.judging.judge.Goals as goal

pub returns-in_err-read_lines : goal.returns-in_err-read_lines
returns-in_err-read_lines g c =
    let level = c.args.level in
    let text = c.args.text.now in
    let game = (g.L.Puzzle.meaning level.now).game in
    let k = g.L.Notation.spelling level.now in
    let lawful = g.met.L.Notation.readable level.now in
    let passes = text_passes (λ z. (g.L.Puzzle.meaning z.now).game) (λ z. g.L.Notation.spelling z.now) (λ s. s.walk.level) (λ s. pass s.progress s.walk.position) level _ c.start.ensures.on (ap (pass _) c.start.ensures.at) text _ c.in_err-read_lines.ensures in
    let p = err_from_is_err_and c.from_residual.result c.from_residual.ensures.1 in
    record { answers = rw (p.1, p.2) passes.0; exactly = accepts_exactly game k lawful text; solves = accepts_solutions game k lawful text }

pub returns : goal.returns
returns g c =
    let level = c.args.level in
    let text = c.args.text.now in
    let game = (g.L.Puzzle.meaning level.now).game in
    let k = g.L.Notation.spelling level.now in
    let lawful = g.met.L.Notation.readable level.now in
    let read = c.in_ok-read_lines.field-0 in
    let passes = text_passes (λ z. (g.L.Puzzle.meaning z.now).game) (λ z. g.L.Notation.spelling z.now) (λ s. s.walk.level) (λ s. pass s.progress s.walk.position) level _ c.start.ensures.on (ap (pass _) c.start.ensures.at) text _ c.in_ok-read_lines.ensures in
    let end = pass read.reader.progress read.reader.walk.position in
    record {
      answers =
          c.conclude.ensures
          ∙ ap (λ z. conclusion (g.L.Puzzle.meaning z.now).game (g.L.Notation.spelling z.now) end read.number (bytes read.left)) passes.1
          ∙ passes.0;
      exactly = accepts_exactly game k lawful text;
      solves = accepts_solutions game k lawful text;
    }
