-- The board of a tile level: its tiles in reading order, and what a move does to them. Assumes nothing.
use Rattle.std.specs.Prelude.{◌≡◌, ℕ, zero, suc, ◌+◌, ◌*◌, ◌/◌, ◌%◌, ◌^◌, ◌<◌, Bool, true, cond, ◌&&◌, List, [], ◌∷◌, take, count_by, position, option_map, option_and_then, Option, ◌==◌, nat_eq, slice_index, slice_set}
use Rattle.grid.specs.declared.Direction.{Direction}
use Rattle.grid.specs.Grid.{neighbour}

-- the position with these tiles, as one number: four bits a cell, the first cell lowest
abbrev pub position_of : List ℕ → ℕ
position_of [] = 0
position_of (t ∷ ts) = t + 16 * position_of ts

-- the first n cells of a position
abbrev pub first_cells : ℕ → ℕ → List ℕ
first_cells zero p = []
first_cells (suc n) p = p % 16 ∷ first_cells n (p / 16)

-- all sixteen cells of a position; a board of fewer cells uses the first of them, and the others are 0
unfoldable pub cells : ℕ → List ℕ
cells p = first_cells 16 p

-- where the blank is, 0
abbrev pub blank_of : List ℕ → Option ℕ
blank_of = position (λ t. t == 0)

-- the blank goes from the cell b to the cell t, and the tile there to b; every other cell stays
abbrev pub tiles_after_swap : List ℕ → ℕ → ℕ → List ℕ
tiles_after_swap ts b t = slice_set (slice_set ts b (slice_index ts t)) t 0

-- the position after that, if the blank is on the cell b
abbrev pub SwapsBlank : ℕ → ℕ → ℕ → ℕ → Type 0
SwapsBlank p b t q = slice_index (cells p) b ≡ 0 → q ≡ position_of (tiles_after_swap (cells p) b t)

-- the tiles after the blank of a w × h board went one cell: none where there is no blank or no such cell
abbrev pub tiles_after_slide : ℕ → ℕ → List ℕ → Direction → Option (List ℕ)
tiles_after_slide w h ts d =
    option_and_then (λ b. option_map (tiles_after_swap ts b) (neighbour w h b d)) (blank_of (take (w * h) ts))

-- the tile that belongs on cell i of n: 1, 2, 3 and so on in reading order, and the blank last
abbrev pub home_tile : ℕ → ℕ → ℕ
home_tile n i = cond (i + 1 == n) 0 (i + 1)

-- each of these tiles, of which the first lies on cell i, is at home
abbrev pub at_home_from : ℕ → ℕ → List ℕ → Bool
at_home_from n i [] = true
at_home_from n i (t ∷ ts) = t == home_tile n i && at_home_from n (i + 1) ts

-- each number below n is on exactly one of n cells
abbrev pub Once : ℕ → ℕ → Type 0
Once n p = (k : ℕ) → k < n → count_by (nat_eq k) (first_cells n p) ≡ 1

-- the same, and the unused cells of the position are 0
abbrev pub Numbered : ℕ → ℕ → Type 0
Numbered n p = Once n p × (p < 16 ^ n)
