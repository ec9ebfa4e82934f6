use Rattle.std.proofs.Common.{◌≡◌, ◌+◌, ◌∷◌, get_or, drop, Some, sym, ap, ◌∙◌, subst}
use Rattle.std.proofs.lemmas.List.{at_drop_all}
use Rattle.text.proofs.Pens.{leads_more, leads_as, leads_end}
use Rattle.text.specs.Lines.{join_lines}
use Rattle.text.specs.Pens.{Writes}
use Rattle.puzzle.specs.Game.{Played}
use Rattle.ways.specs.Writing.{destination, last_destination, move_lines}
use Rattle.ways.proofs.Lines.{lines_more, next_open}
use Rattle.ways.proofs.writing.WayText.compose_moves.Goals as goal

pub loop-number-preserved : goal.loop-number-preserved
loop-number-preserved g c =
    let level = c.args.self.now.level in
    let game = (g.L.Puzzle.meaning level.now).game in
    let k = g.L.Notation.spelling level.now in
    let ms = c.args.self.now.moves.now in
    let i = c.loop-number.number-index in
    let p = c.loop-number.walk.position in
    let m = get_or ms i 0 in
    let inv = c.loop-number.invariant in
    let step = next_open game p ms i c.args.self.now.playable c.loop-number-test.true inv.plays in
    let played = subst (λ b. Played (destination (g.L.Puzzle.meaning b.now).game p m) c.play.result p c.play.new.self.position) inv.same c.play.ensures.leads in
    let moved : c.play.new.self.position ≡ step.next = (rw step.leads at played).1 in
    let wrote = subst (λ b. Writes ((g.L.Notation.spelling b.now).line p m) c.loop-number.pen c.write_move.new.pen) inv.same c.write_move.ensures in
    let left = drop (i + 1) ms in
    record {
      plays = ap (λ q. last_destination game q (i + 1 + 2) left) moved ∙ step.onward ∙ inv.plays;
      same = c.play.ensures.same ∙ inv.same;
      wrote =
          leads_more
          (leads_more
          (leads_as (ap join_lines (lines_more game k p ms i (Some step.next) c.loop-number-test.true step.leads ∙ ap (λ q. k.line p m ∷ move_lines game k q left) (sym moved))) inv.wrote)
          wrote)
          c.put.ensures.wrote;
    }

pub returns : goal.returns
returns g c =
    let game = (g.L.Puzzle.meaning c.args.self.now.level.now).game in
    let k = g.L.Notation.spelling c.args.self.now.level.now in
    let done = at_drop_all (λ ms. join_lines (move_lines game k c.loop-number.walk.position ms)) c.args.self.now.moves.now _ c.loop-number-test.false in
    leads_end (leads_as done c.loop-number.invariant.wrote)
