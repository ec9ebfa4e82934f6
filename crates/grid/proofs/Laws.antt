-- Directions read back from their numbers, places from their cells, and a step is to another cell of the board.
-- Assumes nothing.
use Rattle.std.proofs.Common.{◌≡◌, ℕ, zero, suc, ◌+◌, ◌-◌, ◌*◌, ◌/◌, ◌%◌, ◌<◌, Some, sym, refl, ap, ◌∙◌, mul_comm, arith, lit<}
use Rattle.std.proofs.lemmas.Nat.{div-add-mod', mul-add-lt, div_below, mod_below, div-mul-add, mod-mul-add}
use Rattle.std.proofs.lemmas.Bool.Decides.{nat_tests}
use Rattle.grid.specs.declared.Direction.{Direction}
use Rattle.grid.specs.declared.Direction.TheVariants.{Up, Down, Left, Right}
use Rattle.grid.specs.declared.Coordinates.{Coordinates}
use Rattle.grid.specs.Grid.{number_of, direction_of, neighbour, CellReadsBack, StepsOn}

pub direction_of_number_of : (d : Direction) → direction_of (number_of d) ≡ Some d
direction_of_number_of Up = refl
direction_of_number_of Down = refl
direction_of_number_of Left = refl
direction_of_number_of Right = refl

pub number_of_lt : (d : Direction) → number_of d < 4
number_of_lt Up = lit< tt
number_of_lt Down = lit< tt
number_of_lt Left = lit< tt
number_of_lt Right = lit< tt

pub number_of_direction_of : (m : ℕ) (d : Direction) → direction_of m ≡ Some d → number_of d ≡ m
number_of_direction_of m Up e = grind (arith, nat_tests)
number_of_direction_of m Down e = grind (arith, nat_tests)
number_of_direction_of m Left e = grind (arith, nat_tests)
number_of_direction_of m Right e = grind (arith, nat_tests)

-- where a cell of the board lies
record Lies (w h cell : ℕ) : Type 0 where
  row : cell / w < h
  column : cell % w < w
  place : cell / w * w + cell % w ≡ cell

lies : (w h cell : ℕ) → cell < w * h → Lies w h cell
lies zero h cell on = absurd (omega arith)
lies (suc n) h cell on = record {
  row = div_below cell (suc n) h (omega arith) (omega (arith, mul_comm (suc n) h));
  column = mod_below cell (suc n) (omega arith);
  place = div-add-mod' cell (suc n);
}

-- two rows have no cell in common
rows_apart : (w r s c : ℕ) → c < w → (r ≡ s → ⊥) → r * w + c ≡ s * w + c → ⊥
rows_apart w r s c h apart same = apart (sym (div-mul-add r w c h) ∙ ap (λ k. k / w) same ∙ div-mul-add s w c h)

pub cell_reads_back : (w h : ℕ) (p : Coordinates) → CellReadsBack w h p
cell_reads_back w h p cell e =
    let row : p.row < h = grind (arith, nat_tests) in
    let column : p.column < w = grind (arith, nat_tests) in
    let is : cell ≡ p.row * w + p.column = grind (arith, nat_tests) in
    let on = mul-add-lt p.row w p.column h row column in
    let same_row : cell / w ≡ p.row = ap (λ k. k / w) is ∙ div-mul-add p.row w p.column column in
    let same_column : cell % w ≡ p.column = ap (λ k. k % w) is ∙ mod-mul-add p.row w p.column column in
    grind (arith, nat_tests)

pub steps_on : (w h cell : ℕ) (d : Direction) → StepsOn w h cell d
steps_on w h cell Up t e =
    let l = lies w h cell (grind (arith, nat_tests)) in
    let some : 0 < cell / w = grind (arith, nat_tests) in
    let is : t ≡ (cell / w - 1) * w + cell % w = grind (arith, nat_tests) in
    let on = mul-add-lt (cell / w - 1) w (cell % w) h (omega arith) l.column in
    (omega arith, λ same. rows_apart w (cell / w - 1) (cell / w) (cell % w) l.column (λ q. omega arith) (omega arith))
steps_on w h cell Down t e =
    let l = lies w h cell (grind (arith, nat_tests)) in
    let more : cell / w + 1 < h = grind (arith, nat_tests) in
    let is : t ≡ (cell / w + 1) * w + cell % w = grind (arith, nat_tests) in
    let on = mul-add-lt (cell / w + 1) w (cell % w) h more l.column in
    (omega arith, λ same. rows_apart w (cell / w + 1) (cell / w) (cell % w) l.column (λ q. omega arith) (omega arith))
steps_on w h cell Left t e =
    let l = lies w h cell (grind (arith, nat_tests)) in
    (grind (arith, nat_tests), λ same. grind (arith, nat_tests))
steps_on w h cell Right t e =
    let l = lies w h cell (grind (arith, nat_tests)) in
    let more : cell % w + 1 < w = grind (arith, nat_tests) in
    let is : t ≡ cell / w * w + (cell % w + 1) = grind (arith, nat_tests) in
    let on = mul-add-lt (cell / w) w (cell % w + 1) h l.row more in
    (omega arith, λ same. omega arith)

pub neighbour_inside : (w h c : ℕ) (d : Direction) (t : ℕ) → neighbour w h c d ≡ Some t → t < w * h
neighbour_inside w h c d t e = (steps_on w h c d t e).0
