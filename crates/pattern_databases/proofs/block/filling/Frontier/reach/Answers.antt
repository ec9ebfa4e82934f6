use Rattle.pattern_databases.specs.inside.Filling.{front}
use Rattle.pattern_databases.proofs.BreadthFirst.{queue_has_room}
use Rattle.pattern_databases.proofs.block.filling.Frontier.reach.Goals as goal

pub bounds-self-self : goal.bounds-self-self
bounds-self-self c = queue_has_room (front c.args.self.now) c.args.number c.requires.room c.requires.there c.if-self-number.true
