-- Slides over a board of w × h cells, some of them blocked. Assumes nothing.
use Rattle.std.specs.Prelude.{◌≡◌, ℕ, zero, suc, ◌+◌, ◌<◌, ◌↔◌, Bool, true, false, cond, List, [], ◌∷◌, length, Some, None, Option, ◌≢◌}
use Rattle.grid.specs.declared.Direction.{Direction}
use Rattle.grid.specs.Grid.{neighbour}

module _ (w h : ℕ) (is_blocked : ℕ → Bool) (d : Direction) where
  -- the next cell, unless it is blocked or beyond the border
  abbrev pub free_neighbour : ℕ → Option ℕ
  free_neighbour c = elim (neighbour w h c d) [ Some n ↦ cond (is_blocked n) None (Some n) | None ↦ None ]

  -- the cell that at most k steps lead to
  abbrev pub cell_after : ℕ → ℕ → ℕ
  cell_after zero c = c
  cell_after (suc k) c = elim (free_neighbour c) [ Some n ↦ cell_after k n | None ↦ c ]

  -- the cell where one comes to rest: no line of the board has more than w + h cells
  abbrev pub rest_cell : ℕ → ℕ
  rest_cell c = cell_after (w + h) c

  -- The same without steps that are counted.

  -- the cells passed on the way from one cell to another, all of them free
  pub data Passes : ℕ → List ℕ → ℕ → Type 0 where
    stays : {c : ℕ} → Passes c [] c
    goes : {c n t : ℕ} {ns : List ℕ} → neighbour w h c d ≡ Some n → is_blocked n ≡ false → Passes n ns t → Passes c (n ∷ ns) t

  -- the next cell is blocked or beyond the border
  abbrev pub Stops : ℕ → Type 0
  Stops c = (n : ℕ) → neighbour w h c d ≡ Some n → is_blocked n ≡ true

  -- any number of cells are passed, all free, and one stops at the last
  pub record RestsAt (from to : ℕ) : Type 0 where
    pub passed : List ℕ
    pub free : Passes from passed to
    pub stop : Stops to

  -- the same with one or more cells
  pub record Slides (from to : ℕ) : Type 0 where
    pub passed : List ℕ
    pub free : Passes from passed to
    pub some : 0 < length passed
    pub stop : Stops to

  abbrev pub RestsExactly : ℕ → Type 0
  RestsExactly from = (to : ℕ) → (rest_cell from ≡ to) ↔ RestsAt from to

  -- there is no slide where one rests on the first cell
  abbrev pub SlidesExactly : ℕ → Type 0
  SlidesExactly from = (to : ℕ) → ((rest_cell from ≡ to) × (to ≢ from)) ↔ Slides from to
