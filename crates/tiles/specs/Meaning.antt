-- A tile level as a puzzle: the bound is how far the tiles are from home, in rows and columns. Assumes nothing.
use Rattle.std.specs.Prelude.{ℕ, ◌*◌, Some, ◌==◌}
use Rattle.puzzle.specs.Meaning.{Meaning}
use Rattle.puzzle.specs.Keys.{sum_with, key_of}
use Rattle.tiles.specs.Board.{first_cells}
use Rattle.tiles.specs.Level.{Tiles, game}
use Rattle.tiles.specs.Distances.{total_way_home}

-- how far the tiles are from home, all together
abbrev pub manhattan : Tiles → ℕ → ℕ
manhattan l p = total_way_home l.width 0 (first_cells (l.width * l.height) p)

abbrev pub meaning : Tiles → Meaning ℕ
meaning l = record {
  game = game l;
  lower_bound = λ p. Some (manhattan l p);
  key = λ p. key_of (sum_with 0 p);
  same = λ p q. p == q;
}
