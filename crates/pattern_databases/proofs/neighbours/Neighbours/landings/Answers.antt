use Rattle.std.proofs.Common.{ℕ, ◌+◌, List, ◌++◌, get_or, take, subst}
use Rattle.std.proofs.lemmas.List.{take_rest}
use Rattle.pattern_databases.specs.inside.Walking.{marked, WalksExactly}
use Rattle.pattern_databases.proofs.neighbours.Neighbours.landings.Goals as goal

-- what is walked with are the atom's partners
pub returns-clause-exactly : goal.returns-clause-exactly
returns-clause-exactly c =
    let grid = c.args.self.now.grid in
    let cells = c.args.cells.now in
    let atom = c.args.atom in
    let ls = take c.walk.new.landings.count c.walk.new.landings.cells in
    let map = λ (rest : List ℕ). marked c.args.map.now (take atom cells ++ rest) in
    subst (λ rest. WalksExactly grid.width grid.height (map rest) (get_or cells atom 0) ls)
    (take_rest cells (atom + 1))
    c.walk.ensures.exactly
