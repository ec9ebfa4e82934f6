use Rattle.std.proofs.Common.{◌≡◌, ℕ, zero, suc, ◌+◌, ◌-◌, ◌/◌, ◌%◌, ◌<◌, ◌≤◌, List, [], get_or, take, ap, ◌∙◌, arith}
use Rattle.std.proofs.Math.Nat.{div-le_self, mod-le}
use lib.Bits.{bit_and}
use Rattle.std.proofs.lemmas.Nat.{and_mask}
use Rattle.std.proofs.lemmas.List.{get_or-take, length-take}
use Rattle.tiles.specs.Board.{first_cells}
use Rattle.tiles.proofs.Board.{few_cells}
use Rattle.tiles.specs.Distances.{way_home, total_way_home, Measured}
use Rattle.tiles.proofs.level.TileLevel.manhattan.Invariants.{Sums}
use Rattle.tiles.proofs.level.TileLevel.manhattan.Goals as goal

-- no way home is long
short : (w i t : ℕ) → i < 16 → t < 16 → way_home w i t < 256
short w i zero on fits = omega arith
short w i (suc t) on fits = omega (arith, div-le_self i w, div-le_self t w, mod-le i w, mod-le t w)

-- what is read for a tile is how far it is from home
looked_up : (w n i rest away : ℕ) (rows : List (List ℕ)) → Measured w rows → n ≤ 16 → i < n → away ≡ get_or (get_or (take n rows) i []) (bit_and rest 15) 0 → away ≡ way_home w i (rest % 16)
looked_up w n i rest away rows measured few inside is =
    is
    ∙ ap (λ row. get_or row (bit_and rest 15) 0) (get_or-take n rows i [] inside)
    ∙ ap (λ t. get_or (get_or rows i []) t 0) (and_mask rest 4)
    ∙ measured i (omega arith) (rest % 16) (omega arith)

-- one tile more
one_more : (w n i p rest total away : ℕ) → n ≤ 16 → i < n → away ≡ way_home w i (rest % 16) → Sums w n i p rest total → Sums w n (i + 1) p (rest / 16) (total + away)
one_more w n i p rest total away few inside is sums =
    let left : n - i ≡ suc (n - (i + 1)) = omega arith in
    let next = ap (λ k. total_way_home w i (first_cells k rest)) left in
    let small = short w i (rest % 16) (omega arith) (omega arith) in
    record { small = omega (arith, sums.small); whole = omega (arith, sums.whole, next) }

pub loop-distances-preserved : goal.loop-distances-preserved
loop-distances-preserved c =
    let level = c.args.self.now in
    let few = few_cells _ _ level.wide.1 level.high.1 in
    let count = c.cells.ensures in
    let shown = length-take c.cells.result c.args.self.now.distances in
    let used : c.loop-distances.distances-index < c.cells.result = omega arith in
    let is = looked_up _ _ _ _ _ _ c.args.self.now.measured (omega arith) used c.from-total.ensures in
    one_more _ _ _ _ _ _ _ few (omega arith) is c.loop-distances.invariant
