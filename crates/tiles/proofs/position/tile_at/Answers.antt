use Rattle.tiles.proofs.Board.{cell_bits}
use Rattle.tiles.proofs.position.tile_at.Goals as goal

pub returns : goal.returns
returns c = cell_bits c.args.position c.args.cell c.requires
