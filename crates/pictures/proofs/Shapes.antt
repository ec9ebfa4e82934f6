-- What every picture shows: as many cells as its width times its height, each lettered. Assumes nothing.
use Rattle.std.proofs.Common.{◌≡◌, ℕ, ◌*◌, ◌<◌, ◌≤◌, length, get_or, arith}
use Rattle.std.proofs.lemmas.Nat.{mul-le}
use Rattle.std.proofs.lemmas.List.{length-take-le, get_or-take, get_or_past}
use Rattle.pictures.specs.declared.cell.Cell.TheVariants.{Wall}
use Rattle.pictures.specs.declared.picture.Picture.{Picture}
use Rattle.pictures.specs.Cells.{Lettered}
use Rattle.pictures.specs.Pictures.{shape, cell_at}

-- a picture is at least 1 wide
pub some_wide : (p : Picture) → 1 ≤ (shape p).width
some_wide p = p.wide.0

-- it is at most 16 wide
pub wide_at_most : (p : Picture) → (shape p).width ≤ 16
wide_at_most p = p.wide.1

-- it is at most 16 high
pub high_at_most : (p : Picture) → (shape p).height ≤ 16
high_at_most p = p.high

-- it has at most 256 cells
pub cells_at_most : (p : Picture) → (shape p).width * (shape p).height ≤ 256
cells_at_most p = mul-le _ _ 16 16 p.wide.1 p.high

-- its cells fill its width and height
pub length_cells : (p : Picture) → length (shape p).cells ≡ (shape p).width * (shape p).height
length_cells p = length-take-le _ _ (omega (arith, cells_at_most p, p.filled))

-- its labels are letters
pub lettered_cells : (p : Picture) → Lettered (shape p).cells
lettered_cells p = p.lettered

-- a cell inside it
pub cell_inside : (p : Picture) (i : ℕ) → i < (shape p).width * (shape p).height → cell_at (shape p) i ≡ get_or p.cells i Wall
cell_inside p i h = get_or-take _ _ _ _ h

-- past its last cell all is wall
pub cell_past : (p : Picture) (i : ℕ) → (shape p).width * (shape p).height ≤ i → cell_at (shape p) i ≡ Wall
cell_past p i h = get_or_past (shape p).cells i Wall (omega (arith, length_cells p))
