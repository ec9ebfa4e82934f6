use Rattle.std.proofs.Common.{sym}
use Rattle.tiles.proofs.Board.{few_cells}
use Rattle.tiles.proofs.Empty.{blank_first}
use Rattle.tiles.proofs.game.TileLevelPuzzle.prepare.Goals as goal

pub returns : goal.returns
returns c =
    let few = few_cells _ _ c.args.self.now.wide.1 c.args.self.now.high.1 in
    rw (c.then_some.ensures, c.first_empty-cell.ensures, c.cells.ensures) (sym (blank_first _ c.args.at.now few))
