use Rattle.search_theory.specs.Calls.{advance}
use Rattle.search_theory.proofs.Promise as theory
use Rattle.search.specs.Contents.{search_of}
use Rattle.search.proofs.search.Search.advance.Goals as goal

pub returns-clause-stands : goal.returns-clause-stands
returns-clause-stands g c =
    theory.stands (g.Z.Puzzle.meaning c.args.puzzle.now) g.Z.Puzzle.MOVES (g.met.Z.Puzzle.lawful c.args.puzzle.now) (g.met.Z.Puzzle.counted c.args.puzzle.now)
    (search_of c.args.self.now) (search_of c.take_steps.new.self) (advance c.args.budget c.take_steps.result) c.take_steps.ensures.advances
