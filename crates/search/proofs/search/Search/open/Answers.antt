use Rattle.search_theory.specs.Calls.{opening}
use Rattle.search_theory.proofs.Promise as theory
use Rattle.search.specs.Contents.{search_of}
use Rattle.search.proofs.search.Search.open.Goals as goal

pub returns-clause-promise : goal.returns-clause-promise
returns-clause-promise g c = theory.promise (g.Z.Puzzle.meaning c.args.puzzle.now) g.Z.Puzzle.MOVES (g.met.Z.Puzzle.lawful c.args.puzzle.now) (g.met.Z.Puzzle.counted c.args.puzzle.now)

pub returns-clause-stands : goal.returns-clause-stands
returns-clause-stands g c =
    theory.stands (g.Z.Puzzle.meaning c.args.puzzle.now) g.Z.Puzzle.MOVES (g.met.Z.Puzzle.lawful c.args.puzzle.now) (g.met.Z.Puzzle.counted c.args.puzzle.now)
    (search_of c.args.self.now) (search_of c.begin.new.self) (opening c.begin.result) (λ all_calls. c.begin.ensures.opens)
