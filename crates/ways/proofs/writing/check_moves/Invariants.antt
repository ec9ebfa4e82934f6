use Rattle.std.proofs.Common.{◌≡◌, ◌+◌, drop}
use Rattle.ways.specs.Writing.{last_destination}
use Rattle.ways.proofs.writing.check_moves.Given as goal

abbrev pub invariant-loop-i : goal.invariant-loop-i
invariant-loop-i g l =
    let game = (g.L.Puzzle.meaning l.level).game in
    (last_destination game l.walk.position (l.i + 2) (drop l.i l.moves) ≡ last_destination game game.start 2 l.moves) × (l.walk.level.now ≡ l.level)
