-- How far tiles are from home: nothing at home, and one step more or less on the cell beside. Assumes nothing.
use Rattle.std.proofs.Common.{◌≡◌, ℕ, zero, suc, ◌+◌, ◌-◌, ◌*◌, ◌/◌, ◌%◌, ◌<◌, ◌≤◌, Bool, true, false, eqb, cond, List, [], ◌∷◌, length, get_or, set, Some, refl, ap, ◌∙◌, arith, add-one, add-zero, zero-add}
use Rattle.std.specs.Int.{abs_diff}
use Rattle.std.proofs.lemmas.Nat.{mod_below, div-mul-add, mod-mul-add}
use Rattle.std.proofs.lemmas.Bool.{eqb-true, and_parts}
use Rattle.std.proofs.lemmas.Bool.Decides.{nat_tests}
use Rattle.std.proofs.lemmas.List.{length-set, get_or-set_other}
use Rattle.grid.specs.declared.Direction.{Direction}
use Rattle.grid.specs.declared.Direction.TheVariants.{Up, Down, Left, Right}
use Rattle.grid.specs.Grid.{neighbour}
use Rattle.tiles.specs.Board.{home_tile, at_home_from, tiles_after_swap}
use Rattle.tiles.specs.Distances.{distance, way_home, total_way_home}

-- a tile at home is not far
home_near : (w n i : ℕ) → way_home w i (home_tile n i) ≡ 0
home_near w n i = by_last (eqb (i + 1) n)
  where
    by_last : (b : Bool) → way_home w i (cond b 0 (i + 1)) ≡ 0
    by_last true = refl
    by_last false = rw add-one (omega arith)

pub all_home : (w n i : ℕ) (ts : List ℕ) → at_home_from n i ts ≡ true → total_way_home w i ts ≡ 0
all_home w n i [] at_home = refl
all_home w n i (t ∷ ts) at_home =
    let both = and_parts _ _ at_home in
    let here = eqb-true t (home_tile n i) both.0 in
    let rest = all_home w n (i + 1) ts both.1 in
    let near : way_home w i t ≡ 0 = ap (way_home w i) here ∙ home_near w n i in
    omega arith

-- how far the cell at a row and a column is from another
distance_to : (w r c t b : ℕ) → c < w → t ≡ r * w + c → distance w t b ≡ abs_diff r (b / w) + abs_diff c (b % w)
distance_to w r c t b low is =
    let row : t / w ≡ r = ap (λ k. k / w) is ∙ div-mul-add r w c low in
    let column : t % w ≡ c = ap (λ k. k % w) is ∙ mod-mul-add r w c low in
    rw (row, column)

-- a board with a cell has columns
some_wide : (w h b : ℕ) → b < w * h → 0 < w
some_wide zero h b on = absurd (omega arith)
some_wide (suc w) h b on = omega arith

-- a cell with one beside it is on the board
pub from_board : (w h b t : ℕ) (d : Direction) → neighbour w h b d ≡ Some t → b < w * h
from_board w h b t d e = grind (arith, nat_tests)

column_below : (w h b t : ℕ) (d : Direction) → neighbour w h b d ≡ Some t → b % w < w
column_below w h b t d e = mod_below b w (some_wide w h b (from_board w h b t d e))

-- the cell beside is one step away
pub beside_near : (w h b t : ℕ) (d : Direction) → neighbour w h b d ≡ Some t → distance w t b ≡ 1
beside_near w h b t Up e =
    let some : 0 < b / w = grind (arith, nat_tests) in
    let is : t ≡ (b / w - 1) * w + b % w = grind (arith, nat_tests) in
    omega (arith, distance_to w (b / w - 1) (b % w) t b (column_below w h b t Up e) is)
beside_near w h b t Down e =
    let is : t ≡ (b / w + 1) * w + b % w = grind (arith, nat_tests) in
    omega (arith, distance_to w (b / w + 1) (b % w) t b (column_below w h b t Down e) is)
beside_near w h b t Left e =
    let some : 0 < b % w = grind (arith, nat_tests) in
    let is : t ≡ b / w * w + (b % w - 1) = grind (arith, nat_tests) in
    omega (arith, distance_to w (b / w) (b % w - 1) t b (omega (arith, column_below w h b t Left e)) is)
beside_near w h b t Right e =
    let more : b % w + 1 < w = grind (arith, nat_tests) in
    let is : t ≡ b / w * w + (b % w + 1) = grind (arith, nat_tests) in
    omega (arith, distance_to w (b / w) (b % w + 1) t b more is)

-- not nearer by way of a third
between : (a b c : ℕ) → abs_diff a c ≤ abs_diff a b + abs_diff b c
between a b c = omega arith

-- from the cell beside, home is one step farther at most
way_beside : (w b t v : ℕ) → distance w t b ≡ 1 → way_home w t v ≤ way_home w b v + 1
way_beside w b t zero near = omega arith
way_beside w b t (suc v) near = omega (arith, between (t / w) (b / w) (v / w), between (t % w) (b % w) (v % w))

-- one tile replaced
total_way_home_set : (w k : ℕ) (ts : List ℕ) (i v : ℕ) → i < length ts → total_way_home w k (set ts i v) + way_home w (k + i) (get_or ts i 0) ≡ total_way_home w k ts + way_home w (k + i) v
total_way_home_set w k [] i v inside = absurd (omega arith)
total_way_home_set w k (t ∷ ts) zero v inside = rw add-zero (omega arith)
total_way_home_set w k (t ∷ ts) (suc i) v inside =
    let place : k + suc i ≡ k + 1 + i = omega arith in
    rw place (omega (arith, total_way_home_set w (k + 1) ts i v (omega arith)))

-- the blank and a tile beside it change places
pub total_way_home_swap : (w : ℕ) (ts : List ℕ) (b t : ℕ) → b < length ts → t < length ts → (t ≡ b → ⊥) → get_or ts b 0 ≡ 0 → distance w t b ≡ 1 → total_way_home w 0 ts ≤ total_way_home w 0 (tiles_after_swap ts b t) + 1
total_way_home_swap w ts b t hb ht apart blank near =
    let v = get_or ts t 0 in
    let one = total_way_home_set w 0 ts b v hb in
    let two = total_way_home_set w 0 (set ts b v) t 0 (omega (arith, length-set ts b v)) in
    let none : way_home w (0 + b) (get_or ts b 0) ≡ 0 = ap (way_home w (0 + b)) blank in
    let same : way_home w (0 + t) (get_or (set ts b v) t 0) ≡ way_home w (0 + t) v = ap (way_home w (0 + t)) (get_or-set_other ts b t v 0 apart) in
    let farther : way_home w (0 + t) v ≤ way_home w (0 + b) v + 1 = simp zero-add (way_beside w b t v near) in
    omega arith
