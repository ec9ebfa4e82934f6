-- A step back in the opposite direction leads to the cell that one came from. Assumes nothing.
use Rattle.std.proofs.Common.{◌≡◌, ℕ, zero, suc, ◌+◌, ◌-◌, ◌*◌, ◌/◌, ◌%◌, ◌<◌, Some, sym, ap, ◌∙◌, mul_comm, arith}
use Rattle.std.proofs.lemmas.Nat.{div-add-mod', div_below, mod_below, div-mul-add, mod-mul-add}
use Rattle.std.proofs.lemmas.Bool.Decides.{nat_tests}
use Rattle.grid.specs.declared.Direction.{Direction}
use Rattle.grid.specs.declared.Direction.TheVariants.{Up, Down, Left, Right}
use Rattle.grid.specs.Grid.{at, beside, neighbour}
use Rattle.grid.proofs.Laws.{neighbour_inside}
use Rattle.slides.proofs.Ahead.{from_inside}

abbrev pub opposite : Direction → Direction
opposite Up = Down
opposite Down = Up
opposite Left = Right
opposite Right = Left

-- the row and the column of a cell of the board are on it
pub row_below : (w h cell : ℕ) → cell < w * h → cell / w < h
row_below zero h cell on = absurd (omega arith)
row_below (suc n) h cell on = div_below cell (suc n) h (omega arith) (omega (arith, mul_comm (suc n) h))

pub column_below : (w h cell : ℕ) → cell < w * h → cell % w < w
column_below zero h cell on = absurd (omega arith)
column_below (suc n) h cell on = mod_below cell (suc n) (omega arith)

-- a step beside a row and a column leads back to them
beside_back : (w h r c : ℕ) (d : Direction) (t : ℕ) → r < h → c < w → beside w h r c d ≡ Some t
    → beside w h (t / w) (t % w) (opposite d) ≡ Some (at w r c)
beside_back w h r c Up t row column e =
    let some : 0 < r = grind (arith, nat_tests) in
    let is : t ≡ (r - 1) * w + c = grind (arith, nat_tests) in
    let to_row : t / w ≡ r - 1 = ap (λ k. k / w) is ∙ div-mul-add (r - 1) w c column in
    let to_column : t % w ≡ c = ap (λ k. k % w) is ∙ mod-mul-add (r - 1) w c column in
    let back : r - 1 + 1 ≡ r = omega arith in
    grind (arith, nat_tests)
beside_back w h r c Down t row column e =
    let is : t ≡ (r + 1) * w + c = grind (arith, nat_tests) in
    let to_row : t / w ≡ r + 1 = ap (λ k. k / w) is ∙ div-mul-add (r + 1) w c column in
    let to_column : t % w ≡ c = ap (λ k. k % w) is ∙ mod-mul-add (r + 1) w c column in
    let back : r + 1 - 1 ≡ r = omega arith in
    grind (arith, nat_tests)
beside_back w h r c Left t row column e =
    let some : 0 < c = grind (arith, nat_tests) in
    let is : t ≡ r * w + (c - 1) = grind (arith, nat_tests) in
    let to_row : t / w ≡ r = ap (λ k. k / w) is ∙ div-mul-add r w (c - 1) (omega arith) in
    let to_column : t % w ≡ c - 1 = ap (λ k. k % w) is ∙ mod-mul-add r w (c - 1) (omega arith) in
    let back : c - 1 + 1 ≡ c = omega arith in
    grind (arith, nat_tests)
beside_back w h r c Right t row column e =
    let more : c + 1 < w = grind (arith, nat_tests) in
    let is : t ≡ r * w + (c + 1) = grind (arith, nat_tests) in
    let to_row : t / w ≡ r = ap (λ k. k / w) is ∙ div-mul-add r w (c + 1) more in
    let to_column : t % w ≡ c + 1 = ap (λ k. k % w) is ∙ mod-mul-add r w (c + 1) more in
    let back : c + 1 - 1 ≡ c = omega arith in
    grind (arith, nat_tests)

-- from a cell of the board a step leads beside it
neighbour_beside : (w h c : ℕ) (d : Direction) → c < w * h → neighbour w h c d ≡ beside w h (c / w) (c % w) d
neighbour_beside w h c d on = grind (arith, nat_tests)

pub leads_back : (w h c : ℕ) (d : Direction) (t : ℕ) → neighbour w h c d ≡ Some t
    → neighbour w h t (opposite d) ≡ Some c
leads_back w h c d t e =
    let on = from_inside w h c d t e in
    let beside_it = sym (neighbour_beside w h c d on) ∙ e in
    neighbour_beside w h t (opposite d) (neighbour_inside w h c d t e)
    ∙ beside_back w h (c / w) (c % w) d t (row_below w h c on) (column_below w h c on) beside_it
    ∙ ap Some (div-add-mod' c w)
