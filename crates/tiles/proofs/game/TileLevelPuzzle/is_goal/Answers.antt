use Rattle.std.proofs.Common.{ℕ, ◌<◌, eqb, ap, ◌∙◌, arith, rules, tests}
use Rattle.std.proofs.lemmas.Iterator.Search.{all_from_yields_List}
use Rattle.std.proofs.lemmas.Iterator.Adapters.{serves_from_places}
use Rattle.std.proofs.lemmas.Iterator.Consumers.{YieldsList-from_first, YieldsList-from_enumerate}
use Rattle.tiles.specs.Board.{first_cells, home_tile, at_home_from}
use Rattle.tiles.specs.UsedCells.{cells_left}
use Rattle.tiles.proofs.Board.{length_first_cells}
use Rattle.tiles.proofs.Walks.{listed_below, at_home_listed}
use Rattle.tiles.proofs.game.TileLevelPuzzle.is_goal.Goals as goal

pub all-requires-clause-callable : goal.all-requires-clause-callable
all-requires-clause-callable c =
    let ts = first_cells c.cells-count.result c.args.at.now in
    let listed = YieldsList-from_enumerate (YieldsList-from_first (λ t. t) cells_left ts (ap cells_left c.enumerate.ensures.source ∙ c.new.ensures)) c.enumerate.ensures.count in
    serves_from_places listed (λ x q r. search (rules, tests))
    (λ x k h is.
    let on : x.0 < c.cells-count.result = omega (arith, listed_below ts k x h is, length_first_cells c.cells-count.result c.args.at.now) in
    search rules)

pub returns : goal.returns
returns c =
    let n = c.cells-count.result in
    let ts = first_cells n c.args.at.now in
    let listed = YieldsList-from_enumerate (YieldsList-from_first (λ t. t) cells_left ts (ap cells_left c.enumerate.ensures.source ∙ c.new.ensures)) c.enumerate.ensures.count in
    all_from_yields_List (λ (p : ℕ × ℕ). eqb p.1 (home_tile n p.0)) _ _ c.all.result c.all.ensures.ran listed (λ x b q k. search (rules, tests))
    ∙ at_home_listed n 0 ts
    ∙ ap (λ k. at_home_from k 0 (first_cells k c.args.at.now)) c.cells-count.ensures
