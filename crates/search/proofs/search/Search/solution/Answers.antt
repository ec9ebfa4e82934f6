use Rattle.std.proofs.Common.{refl}
use Rattle.search_theory.specs.Calls.{recital}
use Rattle.search_theory.proofs.Promise as theory
use Rattle.search.specs.Contents.{search_of}
use Rattle.search.proofs.search.Search.solution.Goals as goal

pub returns-clause-stands : goal.returns-clause-stands
returns-clause-stands g c =
    theory.stands (g.Z.Puzzle.meaning c.args.puzzle.now) g.Z.Puzzle.MOVES (g.met.Z.Puzzle.lawful c.args.puzzle.now) (g.met.Z.Puzzle.counted c.args.puzzle.now)
    (search_of c.args.self.now) (search_of c.args.self.now) (recital c.args.moves.now c.recite.result c.recite.new.moves) (λ all_calls. (c.recite.ensures.recites all_calls, refl))
