use Rattle.std.proofs.Common.{◌≡◌, ◌+◌, drop}
use Rattle.text.proofs.Pens.{Leads}
use Rattle.text.specs.Lines.{join_lines}
use Rattle.ways.specs.Writing.{last_destination, move_lines}
use Rattle.ways.proofs.writing.WayText.compose_moves.Given as goal

abbrev pub invariant-loop-number : goal.invariant-loop-number
invariant-loop-number g l =
    let game = (g.L.Puzzle.meaning l.self.level.now).game in
    let k = g.L.Notation.spelling l.self.level.now in
    let ms = l.self.moves.now in
    let left = drop l.number-index ms in
    record {
      plays : last_destination game l.walk.position (l.number-index + 2) left ≡ last_destination game game.start 2 ms;
      same : l.walk.level ≡ l.self.level;
      wrote : Leads (join_lines (move_lines game k game.start ms)) (join_lines (move_lines game k l.walk.position left)) l.initial.pen l.pen;
    }
