use Rattle.std.proofs.Common.{◌≡◌, ◌-◌, []}
use Rattle.atoms.specs.Level.{atoms}
use Rattle.pattern_databases.specs.inside.Filling.{front, Keeps}
use Rattle.pattern_databases.proofs.Spreading.{Taken, Walked}
use Rattle.pattern_databases.proofs.block.Block.reach_from.Given as goal

-- what the atoms so far reach is reached
abbrev pub invariant-loop-atom : goal.invariant-loop-atom
invariant-loop-atom l =
    let level = atoms l.self.layout.now.level.now in
    let place = l.self.goal_place in
    let part = l.self.part.now in
    let done = l.fn.frontier.taken - 1 in
    record {
      taken : Taken level place part l.fn.frontier.entries.now l.cells l.number;
      walked : Walked level place part (front l.frontier) done l.number l.moves l.cells l.atom [] 0;
      kept : Keeps l.fn.frontier l.frontier;
      map : l.map ≡ l.fn.map;
    }

-- and so is what the landings so far of the next one reach
abbrev pub invariant-loop-cell : goal.invariant-loop-cell
invariant-loop-cell l =
    let level = atoms l.self.layout.now.level.now in
    let place = l.self.goal_place in
    let part = l.self.part.now in
    let done = l.fn.frontier.taken - 1 in
    record {
      walked : Walked level place part (front l.frontier) done l.number l.moves l.cells l.atom
          l.cell-items l.cell-index;
      kept : Keeps l.fn.frontier l.frontier;
    }
