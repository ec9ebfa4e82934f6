-- The cells of a board that are no walls. Assumes nothing.
use Rattle.std.specs.Prelude.{◌≡◌, ℕ, ◌<◌, false, not, List, length, filter, ◌==◌}
use Rattle.std.specs.List.{range_with_len, position_or_len}
use Rattle.pictures.specs.Pictures.{Shape}
use Rattle.atoms.specs.Board.{is_wall_at}

module _ (b : Shape) where
  -- the cells of the board that are no walls, in reading order: those under atoms are among them
  abbrev pub free_cells : List ℕ
  free_cells = filter (λ cell. not (is_wall_at b cell)) (range_with_len 0 (length b.cells))

  abbrev pub free_count : ℕ
  free_count = length free_cells

  -- the number of a free cell among them, from 0
  abbrev pub free_number : ℕ → ℕ
  free_number cell = position_or_len (λ k. cell == k) free_cells

  -- a cell of the board is no wall
  pub record IsFree (cell : ℕ) : Type 0 where
    pub inside : cell < length b.cells
    pub unwalled : is_wall_at b cell ≡ false
