use Rattle.std.proofs.Common.{◌≡◌, ◌^◌}
use Rattle.pictures.specs.Pictures.{shape}
use Rattle.pattern_databases.specs.Floor.{free_count}
use Rattle.pattern_databases.proofs.layout.Layout.placements.Given as goal

abbrev pub invariant-loop : goal.invariant-loop
invariant-loop l = l.placements ≡ free_count (shape l.self.level.now.board) ^ l.counter
