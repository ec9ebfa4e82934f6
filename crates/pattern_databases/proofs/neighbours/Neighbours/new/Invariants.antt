use Rattle.std.proofs.Common.{◌≡◌, length}
use Rattle.pattern_databases.proofs.Tables.{ShowsFirst, ShowsDirections}
use Rattle.pattern_databases.proofs.neighbours.Neighbours.new.Given as goal

-- the directions so far are in the table
abbrev pub invariant-loop-direction : goal.invariant-loop-direction
invariant-loop-direction l = record {
  long : length l.steps ≡ 1024;
  before : ShowsDirections l.grid.width l.grid.height l.steps l.direction-index;
}

-- and of this one the cells so far
abbrev pub invariant-loop-cell : goal.invariant-loop-cell
invariant-loop-cell l = record {
  long : length l.steps ≡ 1024;
  before : ShowsDirections l.grid.width l.grid.height l.steps l.direction-index;
  here : ShowsFirst l.grid.width l.grid.height l.steps l.direction l.cell;
}
