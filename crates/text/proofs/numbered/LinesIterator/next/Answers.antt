use Rattle.std.proofs.Common.{◌+◌, ◌∷◌, drop, sym, refl, ap, ◌∙◌}
use Rattle.text.specs.Lines.{split, bytes, line_end}
use Rattle.text.proofs.Lines.{line_found, line_missing, split_at, split_end}
use Rattle.text.proofs.numbered.LinesIterator.next.Goals as goal

pub returns-in_err-line-clause-steps : goal.returns-in_err-line-clause-steps
returns-in_err-line-clause-steps c =
    let s = c.args.self.now in
    let past = line_missing s.left.text.now s.left.at c.in_err-line.ensures in
    rw c.from_residual.ensures (split_end s.left.text.now s.left.at past, refl)

pub returns-clause-steps : goal.returns-clause-steps
returns-clause-steps c =
    let t = c.args.self.now.left.text.now in
    let at = c.args.self.now.left.at in
    let line = c.in_ok-line.line in
    let found = line_found t at line c.in_ok-line.ensures in (
      refl,
      refl,
      split_at t at found.ended ∙ ap (λ l. l ∷ split (drop (line_end t at + 1) t)) (sym found.whole)
          ∙ ap (λ k. bytes line ∷ split (drop (k + 1) t)) (sym found.long),
    )
