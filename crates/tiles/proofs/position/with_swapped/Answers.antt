use Rattle.std.proofs.Common.{◌≡◌, ℕ, ◌+◌, ◌-◌, ◌*◌, ◌%◌, ◌^◌, ◌<◌, ◌≤◌, length, get_or, sym, ap, ◌∙◌, subst, arith}
use Rattle.std.proofs.lemmas.List.Elements.{All-get_or}
use Rattle.tiles.specs.Board.{position_of, cells, tiles_after_swap}
use Rattle.tiles.proofs.Board.{Small, length_cells, small_cells, position_of_cells, shl_cell, tile_le, position_of_swap, position_of_lt, length_swap, small_swap}
use Rattle.tiles.proofs.position.with_swapped.Goals as goal

-- a tile's bits on a cell, as the code shifts them there
abbrev shifted : ℕ → ℕ → ℕ
shifted v i = (v * 2 ^ (4 * i)) % 2 ^ 64

-- the tile v of the cell t of a position
module _ (p t v : ℕ) (fits : p < 2 ^ 64) (ht : t < 16) (is : v ≡ get_or (cells p) t 0) where
  small : Small v
  small = subst Small (sym is) (All-get_or Small (cells p) t 0 (omega (arith, length_cells p)) (small_cells p))

  -- it on any cell
  shifted_to : (i : ℕ) → i < 16 → shifted v i ≡ get_or (cells p) t 0 * 16 ^ i
  shifted_to i hi = shl_cell v i small hi ∙ ap (λ k. k * 16 ^ i) is

  part : shifted v t ≤ p
  part = omega (arith, position_of_cells p fits, shifted_to t ht, tile_le (cells p) t (omega (arith, length_cells p)))

  -- it goes to the blank's cell
  goes : (b : ℕ) → b < 16 → (t ≡ b → ⊥) → get_or (cells p) b 0 ≡ 0 → (p - shifted v t + shifted v b) % 2 ^ 64 ≡ position_of (tiles_after_swap (cells p) b t)
  goes b hb apart blank =
      let ts = cells p in
      let long = length_cells p in
      let after = position_of_swap ts b t (omega arith) (omega arith) apart blank in
      let below = position_of_lt (tiles_after_swap ts b t) (small_swap ts b t (omega arith) (small_cells p)) in
      let power : 16 ^ length (tiles_after_swap ts b t) ≡ 16 ^ 16 = ap (λ k. 16 ^ k) (length_swap ts b t ∙ long) in
      omega (arith, position_of_cells p fits, part, shifted_to t ht, shifted_to b hb)

tile_is : (c : goal.After-from-tile) → c.from-tile.result ≡ get_or (cells c.args.position) c.args.cell 0
tile_is c = c.from-tile.ensures ∙ c.tile_at.ensures

pub overflow_sub-taken_off : goal.overflow_sub-taken_off
overflow_sub-taken_off c = part _ _ _ (omega (arith, c.ranges.position)) c.requires.source (tile_is c)

pub returns : goal.returns
returns c blank =
    goes _ _ _ (omega (arith, c.ranges.position)) c.requires.source (tile_is c) _ c.requires.target c.requires.apart blank
