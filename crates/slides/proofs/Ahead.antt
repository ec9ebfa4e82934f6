-- How many cells lie ahead on a board, up to the border: each step leaves one less. Assumes nothing.
use Rattle.std.proofs.Common.{◌≡◌, ℕ, zero, suc, ◌+◌, ◌-◌, ◌*◌, ◌/◌, ◌%◌, ◌<◌, ◌≤◌, Some, ap, ◌∙◌, mul_comm, arith}
use Rattle.std.proofs.lemmas.Nat.{div_below, mod_below, div-mul-add, mod-mul-add}
use Rattle.std.proofs.lemmas.Bool.Decides.{nat_tests}
use Rattle.grid.specs.declared.Direction.{Direction}
use Rattle.grid.specs.declared.Direction.TheVariants.{Up, Down, Left, Right}
use Rattle.grid.specs.Grid.{neighbour}

-- the cells ahead of a cell of the board
abbrev pub ahead : ℕ → ℕ → ℕ → Direction → ℕ
ahead w h c Up = c / w
ahead w h c Down = h - 1 - c / w
ahead w h c Left = c % w
ahead w h c Right = w - 1 - c % w

row_below : (w h c : ℕ) → c < w * h → c / w < h
row_below zero h c on = absurd (omega arith)
row_below (suc n) h c on = div_below c (suc n) h (omega arith) (omega (arith, mul_comm (suc n) h))

column_below : (w h c : ℕ) → c < w * h → c % w < w
column_below zero h c on = absurd (omega arith)
column_below (suc n) h c on = mod_below c (suc n) (omega arith)

-- there are no more than the board is wide and high
pub ahead_few : (w h c : ℕ) (d : Direction) → c < w * h → ahead w h c d ≤ w + h
ahead_few w h c Up on = omega (arith, row_below w h c on)
ahead_few w h c Down on = omega arith
ahead_few w h c Left on = omega (arith, column_below w h c on)
ahead_few w h c Right on = omega arith

-- one steps only from cells of the board
pub from_inside : (w h c : ℕ) (d : Direction) (t : ℕ) → neighbour w h c d ≡ Some t → c < w * h
from_inside w h c Up t e = grind (arith, nat_tests)
from_inside w h c Down t e = grind (arith, nat_tests)
from_inside w h c Left t e = grind (arith, nat_tests)
from_inside w h c Right t e = grind (arith, nat_tests)

-- a step leaves one cell less ahead
pub ahead_less : (w h c : ℕ) (d : Direction) (t : ℕ) → neighbour w h c d ≡ Some t → ahead w h t d + 1 ≡ ahead w h c d
ahead_less w h c Up t e =
    let on = from_inside w h c Up t e in
    let some : 0 < c / w = grind (arith, nat_tests) in
    let is : t ≡ (c / w - 1) * w + c % w = grind (arith, nat_tests) in
    let row : t / w ≡ c / w - 1 = ap (λ k. k / w) is ∙ div-mul-add (c / w - 1) w (c % w) (column_below w h c on) in
    omega arith
ahead_less w h c Down t e =
    let on = from_inside w h c Down t e in
    let some : c / w + 1 < h = grind (arith, nat_tests) in
    let is : t ≡ (c / w + 1) * w + c % w = grind (arith, nat_tests) in
    let row : t / w ≡ c / w + 1 = ap (λ k. k / w) is ∙ div-mul-add (c / w + 1) w (c % w) (column_below w h c on) in
    omega arith
ahead_less w h c Left t e =
    let on = from_inside w h c Left t e in
    let some : 0 < c % w = grind (arith, nat_tests) in
    let is : t ≡ c / w * w + (c % w - 1) = grind (arith, nat_tests) in
    let column : t % w ≡ c % w - 1 = ap (λ k. k % w) is ∙ mod-mul-add (c / w) w (c % w - 1) (omega (arith, column_below w h c on)) in
    omega arith
ahead_less w h c Right t e =
    let some : c % w + 1 < w = grind (arith, nat_tests) in
    let is : t ≡ c / w * w + (c % w + 1) = grind (arith, nat_tests) in
    let column : t % w ≡ c % w + 1 = ap (λ k. k % w) is ∙ mod-mul-add (c / w) w (c % w + 1) some in
    omega arith
