-- The cells that are left of a walk over a position's used cells: cited by private functions alone. Assumes nothing.
use Rattle.std.specs.Prelude.{ℕ, List}
use Rattle.tiles.specs.declared.position.UsedCells.{UsedCells}
use Rattle.tiles.specs.Board.{first_cells}

-- what lies on the cells that are left
abbrev pub cells_left : UsedCells → List ℕ
cells_left c = first_cells c.left c.position
