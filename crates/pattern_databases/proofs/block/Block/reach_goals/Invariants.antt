use Rattle.atoms.specs.Level.{atoms}
use Rattle.pattern_databases.specs.inside.Filling.{front, Keeps, Near, IsGoal}
use Rattle.pattern_databases.proofs.BreadthFirst.{Collecting}
use Rattle.pattern_databases.proofs.block.Block.reach_goals.Given as goal

-- the goals among the numbers so far are reached, and nothing else
abbrev pub invariant-loop-number : goal.invariant-loop-number
invariant-loop-number l =
    let level = atoms l.self.layout.now.level.now in
    let part = l.self.part.now in
    record {
      collected : Collecting (Near level part) (IsGoal level l.self.goal_place part) (front l.frontier) l.number;
      kept : Keeps l.fn.frontier l.frontier;
    }
