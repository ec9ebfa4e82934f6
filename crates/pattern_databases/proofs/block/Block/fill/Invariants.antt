use Rattle.std.proofs.Common.{◌≡◌, ◌-◌, ◌^◌, length}
use Rattle.atoms.specs.Level.{atoms}
use Rattle.pattern_databases.specs.Floor.{free_count}
use Rattle.pattern_databases.specs.inside.Filling.{front, SearchedBlock}
use Rattle.pattern_databases.proofs.block.Block.fill.Given as goal

-- the placements that were taken are done
abbrev pub invariant-loop-number : goal.invariant-loop-number
invariant-loop-number l =
    let level = atoms l.self.layout.now.level.now in
    let f = l.frontier in
    record {
      whole : length f.entries.now ≡ free_count level.board ^ length l.self.part.now;
      searched : SearchedBlock level l.self.goal_place l.self.part.now (front f) (length f.entries.now) f.taken;
      entries : f.entries.ghost_name ≡ l.initial.frontier.entries.ghost_name;
      queue : f.queue.ghost_name ≡ l.initial.frontier.queue.ghost_name;
      map : l.map ≡ l.initial.map;
    }

-- each placement is taken once
abbrev pub decreases-loop-number : goal.decreases-loop-number
decreases-loop-number l = length l.frontier.entries.now - l.frontier.taken
