-- Positions as numbers: what one written cell adds, and cells as shifts and masks read and write them.
-- Assumes nothing.
use Rattle.std.proofs.Common.{◌≡◌, ℕ, zero, suc, ◌+◌, ◌*◌, ◌/◌, ◌%◌, ◌^◌, ◌<◌, ◌≤◌, ◌↔◌, List, [], ◌∷◌, ◌++◌, length, get_or, set, sym, refl, ap, ◌∙◌, mul_assoc, div-lt_iff_lt-mul, mul_left_comm, arith}
use Rattle.std.specs.List.{All}
use native.Mathlib.Nat.{pow-succ', div-div-eq-div-mul}
use lib.Bits.{bit_and}
use Rattle.std.proofs.lemmas.Nat.{pow-add, pow_pos, and_mask, shl_whole, mul-le}
use Rattle.std.proofs.lemmas.List.Elements.{All-head, All-tail}
use Rattle.std.proofs.lemmas.List.{length-set, get_or-set_other}
use Rattle.tiles.specs.Board.{position_of, first_cells, cells, tiles_after_swap}
pub use Rattle.tiles.specs.laws.Cells.{Small, length_first_cells, small_first_cells, take_first_cells, first_cells_position_of, cells_first_cells, length_cells, small_cells, take_cells, get_or_cells, length_swap, small_swap, few_cells}

pub get_or_first_cells : (n p i : ℕ) → i < n → get_or (first_cells n p) i 0 ≡ p / 16 ^ i % 16
get_or_first_cells zero p i h = absurd (omega arith)
get_or_first_cells (suc n) p zero h = omega arith
get_or_first_cells (suc n) p (suc i) h =
    get_or_first_cells n (p / 16) i (omega arith)
    ∙ ap (λ q. q % 16) (div-div-eq-div-mul p 16 (16 ^ i) ∙ ap (λ k. p / k) (sym (pow-succ' 16 i)))

pub position_of_first_cells : (n p : ℕ) → p < 16 ^ n → position_of (first_cells n p) ≡ p
position_of_first_cells zero p h = omega arith
position_of_first_cells (suc n) p h =
    let power = pow-succ' 16 n in
    let rest = position_of_first_cells n (p / 16) (omega arith) in
    omega arith

pub position_of_lt : (ts : List ℕ) → All Small ts → position_of ts < 16 ^ length ts
position_of_lt [] small = omega arith
position_of_lt (t ∷ ts) small =
    omega (arith, All-head Small t ts small, position_of_lt ts (All-tail Small t ts small), pow-succ' 16 (length ts))

-- one cell up is sixteen times as much
up : (v i : ℕ) → v * 16 ^ suc i ≡ 16 * (v * 16 ^ i)
up v i = ap (λ k. v * k) (pow-succ' 16 i) ∙ mul_left_comm v 16 (16 ^ i)

pub position_of_append : (ts us : List ℕ) → position_of (ts ++ us) ≡ position_of ts + 16 ^ length ts * position_of us
position_of_append [] us = omega arith
position_of_append (t ∷ ts) us =
    let power : 16 ^ suc (length ts) * position_of us ≡ 16 * (16 ^ length ts * position_of us) =
    ap (λ k. k * position_of us) (pow-succ' 16 (length ts)) ∙ mul_assoc 16 (16 ^ length ts) (position_of us) in
    omega (arith, position_of_append ts us)

pub position_of_set : (ts : List ℕ) (i v : ℕ) → i < length ts → position_of (set ts i v) + get_or ts i 0 * 16 ^ i ≡ position_of ts + v * 16 ^ i
position_of_set [] i v h = absurd (omega arith)
position_of_set (t ∷ ts) zero v h = omega arith
position_of_set (t ∷ ts) (suc i) v h = omega (arith, position_of_set ts i v (omega arith), up v i, up (get_or ts i 0) i)

pub position_of_cells : (p : ℕ) → p < 2 ^ 64 → position_of (cells p) ≡ p
position_of_cells p fits = ap position_of (cells_first_cells p) ∙ position_of_first_cells 16 p fits

-- cells as shifts and masks read and write them
pub pow_bits : (i : ℕ) → 16 ^ i ≡ 2 ^ (4 * i)
pow_bits zero = refl
pow_bits (suc i) =
    let more : 4 + 4 * i ≡ 4 * suc i = omega arith in
    pow-succ' 16 i ∙ ap (λ k. 16 * k) (pow_bits i) ∙ sym (pow-add 2 4 (4 * i)) ∙ ap (λ k. 2 ^ k) more

pub cell_bits : (p i : ℕ) → i < 16 → bit_and (p / 2 ^ (4 * i)) 15 ≡ get_or (cells p) i 0
cell_bits p i h =
    and_mask (p / 2 ^ (4 * i)) 4
    ∙ ap (λ k. p / k % 16) (sym (pow_bits i))
    ∙ sym (ap (λ ts. get_or ts i 0) (cells_first_cells p) ∙ get_or_first_cells 16 p i h)

pub shl_cell : (v i : ℕ) → Small v → i < 16 → (v * 2 ^ (4 * i)) % 2 ^ 64 ≡ v * 16 ^ i
shl_cell v i small h = shl_whole v 4 (4 * i) 64 small (omega arith) ∙ ap (λ k. v * k) (sym (pow_bits i))

-- the tile on a cell is part of the position, and a swap with the blank moves that part
pub tile_le : (ts : List ℕ) (i : ℕ) → i < length ts → get_or ts i 0 * 16 ^ i ≤ position_of ts
tile_le ts i h = omega (arith, position_of_set ts i 0 h)

pub position_of_swap : (ts : List ℕ) (b t : ℕ) → b < length ts → t < length ts → (t ≡ b → ⊥) → get_or ts b 0 ≡ 0 → position_of (tiles_after_swap ts b t) + get_or ts t 0 * 16 ^ t ≡ position_of ts + get_or ts t 0 * 16 ^ b
position_of_swap ts b t hb ht apart blank =
    let v = get_or ts t 0 in
    let one = position_of_set ts b v hb in
    let none : get_or ts b 0 * 16 ^ b ≡ 0 * 16 ^ b = ap (λ k. k * 16 ^ b) blank in
    let long : t < length (set ts b v) = omega (arith, length-set ts b v) in
    let two = position_of_set (set ts b v) t 0 long in
    let same : get_or (set ts b v) t 0 * 16 ^ t ≡ v * 16 ^ t = ap (λ k. k * 16 ^ t) (get_or-set_other ts b t v 0 apart) in
    omega arith

-- what is left of a position above its first n cells is one more cell, or does not fit one
pub fits_cell : (p n : ℕ) → (p / 2 ^ (4 * n) ≤ 15) ↔ (p < 16 ^ suc n)
fits_cell p n =
    let power : 16 ^ suc n ≡ 16 * 2 ^ (4 * n) = pow-succ' 16 n ∙ ap (λ k. 16 * k) (pow_bits n) in
    let split = div-lt_iff_lt-mul {k = 2 ^ (4 * n)} {x = p} {y = 16} (pow_pos (4 * n)) in (
      λ h. let below = split.0 (omega arith) in omega arith,
      λ h. let below = split.1 (omega arith) in omega arith,
    )

-- a level's board has at least four cells
pub some_cells : (w h : ℕ) → 2 ≤ w → 2 ≤ h → 4 ≤ w * h
some_cells w h hw hh = mul-le 2 2 w h hw hh
