use Rattle.std.proofs.Common.{subst, ◌∙◌, arith, length}
use Rattle.search_theory.specs.Calls.{Recites}
use Rattle.search.specs.Contents.{search_of}
use Rattle.answers.specs.declared.solving.TheConstants.{BUDGET}
use Rattle.answers.proofs.Ending.{ended, recited, recites, finds, new_as, unrefused}
use Rattle.answers.proofs.solving.solve.Goals as goal

pub unwrap-requires-in-Solved : goal.unwrap-requires-in-Solved
unwrap-requires-in-Solved g c =
    let m = g.Z.Puzzle.meaning c.args.puzzle.now in
    let lawful = g.met.Z.Puzzle.lawful c.args.puzzle.now in
    let e = ended m g.Z.Puzzle.MOVES lawful (search_of c.open.new.self) (search_of c.advance.new.self) BUDGET
    (new_as (search_of c.new-search.result) (length c.args.table.now) (length c.args.numbers.now) 2048 16384 c.new-search.ensures.empty c.requires.table c.requires.numbers)
    (c.new-search.ensures.uncalled m) c.unwrap.ensures c.open.ensures.opens c.open.ensures.stands c.unwrap-advance.ensures c.advance.ensures.advances c.advance.ensures.stands (omega arith) in
    unrefused c.solution.result (c.solution.ensures.refused ∙ recited e c.in-Solved.field-0 (length c.args.moves.now) c.in-Solved.is (omega (arith, c.requires.moves)))

pub returns-in-Solved : goal.returns-in-Solved
returns-in-Solved g c =
    let m = g.Z.Puzzle.meaning c.args.puzzle.now in
    let lawful = g.met.Z.Puzzle.lawful c.args.puzzle.now in
    let e = ended m g.Z.Puzzle.MOVES lawful (search_of c.open.new.self) (search_of c.advance.new.self) BUDGET
    (new_as (search_of c.new-search.result) (length c.args.table.now) (length c.args.numbers.now) 2048 16384 c.new-search.ensures.empty c.requires.table c.requires.numbers)
    (c.new-search.ensures.uncalled m) c.unwrap.ensures c.open.ensures.opens c.open.ensures.stands c.unwrap-advance.ensures c.advance.ensures.advances c.advance.ensures.stands (omega arith) in
    let recital = subst (λ r. Recites m (search_of c.advance.new.self) c.args.moves.now r c.solution.new.moves) c.unwrap-in-Solved.ensures (c.solution.ensures.recites e.stands.all_calls) in
    finds e c.args.moves.now c.solution.new.moves (λ n is. recites e n c.unwrap-in-Solved.result c.args.moves.now c.solution.new.moves is recital)

pub returns-in_default : goal.returns-in_default
returns-in_default g c =
    let m = g.Z.Puzzle.meaning c.args.puzzle.now in
    let lawful = g.met.Z.Puzzle.lawful c.args.puzzle.now in
    let e = ended m g.Z.Puzzle.MOVES lawful (search_of c.open.new.self) (search_of c.advance.new.self) BUDGET
    (new_as (search_of c.new-search.result) (length c.args.table.now) (length c.args.numbers.now) 2048 16384 c.new-search.ensures.empty c.requires.table c.requires.numbers)
    (c.new-search.ensures.uncalled m) c.unwrap.ensures c.open.ensures.opens c.open.ensures.stands c.unwrap-advance.ensures c.advance.ensures.advances c.advance.ensures.stands (omega arith) in
    finds e c.args.moves.now c.args.moves.now (λ n is. absurd (c.in_default.not-Solved n is))
