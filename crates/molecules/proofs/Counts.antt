-- The cells of a picture, counted. Assumes nothing.
use Rattle.std.proofs.Common.{◌≡◌, ℕ, ◌*◌, ◌<◌, ◌≤◌, length, sym, ap, ◌∙◌, arith}
use Rattle.grid.specs.declared.Grid.{Grid}
use Rattle.pictures.specs.declared.picture.Picture.{Picture}
use Rattle.pictures.specs.Pictures.{shape}
use Rattle.pictures.proofs.Shapes.{cells_at_most, length_cells}

-- the board of a picture has as many cells as the picture shows
pub cells_counted : (p : Picture) (g : Grid) (n : ℕ) → g ≡ p.grid → n ≡ g.width * g.height → length (shape p).cells ≡ n
cells_counted p g n same counted = length_cells p ∙ sym (counted ∙ ap (λ (b : Grid). b.width * b.height) same)

-- they are at most 256
pub cells_few : (p : Picture) → length (shape p).cells ≤ 256
cells_few p = omega (arith, length_cells p, cells_at_most p)

-- and each is below 256
pub cell_small : (p : Picture) (g : Grid) (n i : ℕ) → g ≡ p.grid → n ≡ g.width * g.height → i < n → i < 256
cell_small p g n i same counted h = omega (arith, cells_counted p g n same counted, cells_few p)
