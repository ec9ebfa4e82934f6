-- Positions and their tiles: how many they are, that each fits its cell, and that a position holds the tiles that make it.
-- Assumes nothing.
use Rattle.std.proofs.Common.{◌≡◌, ℕ, zero, suc, ◌+◌, ◌*◌, ◌/◌, ◌%◌, ◌<◌, ◌≤◌, List, [], ◌∷◌, length, get_or, take, set, sym, refl, ap, ◌∙◌, arith}
use Rattle.std.specs.List.{All}
use Rattle.std.proofs.lemmas.Nat.{mul-le}
use Rattle.std.proofs.lemmas.List.Elements.{All-nil, All-cons, All-head, All-tail, All-set, All-get_or}
use Rattle.std.proofs.lemmas.List.{length-set, get_or-take}
use Rattle.tiles.specs.Board.{position_of, first_cells, cells, tiles_after_swap}

-- fits the four bits of a cell
abbrev pub Small : ℕ → Type 0
Small t = t < 16

pub length_first_cells : (n p : ℕ) → length (first_cells n p) ≡ n
length_first_cells zero p = refl
length_first_cells (suc n) p = ap suc (length_first_cells n (p / 16))

pub small_first_cells : (n p : ℕ) → All Small (first_cells n p)
small_first_cells zero p = All-nil Small
small_first_cells (suc n) p = All-cons Small _ _ (omega arith) (small_first_cells n (p / 16))

pub take_first_cells : (n m p : ℕ) → n ≤ m → take n (first_cells m p) ≡ first_cells n p
take_first_cells zero m p h = refl
take_first_cells (suc n) zero p h = absurd (omega arith)
take_first_cells (suc n) (suc m) p h = ap (λ ts. p % 16 ∷ ts) (take_first_cells n m (p / 16) (omega arith))

pub first_cells_position_of : (ts : List ℕ) → All Small ts → first_cells (length ts) (position_of ts) ≡ ts
first_cells_position_of [] small = refl
first_cells_position_of (t ∷ ts) small =
    let fits : t < 16 = All-head Small t ts small in
    let first : (t + 16 * position_of ts) % 16 ≡ t = omega arith in
    let rest : (t + 16 * position_of ts) / 16 ≡ position_of ts = omega arith in
    ap (λ k. k ∷ first_cells (length ts) ((t + 16 * position_of ts) / 16)) first
    ∙ ap (λ k. t ∷ first_cells (length ts) k) rest
    ∙ ap (λ us. t ∷ us) (first_cells_position_of ts (All-tail Small t ts small))

-- all sixteen cells
pub cells_first_cells : (p : ℕ) → cells p ≡ first_cells 16 p
unfolding cells
cells_first_cells p = refl

pub length_cells : (p : ℕ) → length (cells p) ≡ 16
length_cells p = ap length (cells_first_cells p) ∙ length_first_cells 16 p

pub small_cells : (p : ℕ) → All Small (cells p)
unfolding cells
small_cells p = small_first_cells 16 p

pub take_cells : (n p : ℕ) → n ≤ 16 → take n (cells p) ≡ first_cells n p
take_cells n p few = ap (take n) (cells_first_cells p) ∙ take_first_cells n 16 p few

-- a used cell among the used ones
pub get_or_cells : (n p i : ℕ) → n ≤ 16 → i < n → get_or (cells p) i 0 ≡ get_or (first_cells n p) i 0
get_or_cells n p i few h = sym (get_or-take n (cells p) i 0 h) ∙ ap (λ ts. get_or ts i 0) (take_cells n p few)

pub length_swap : (ts : List ℕ) (b t : ℕ) → length (tiles_after_swap ts b t) ≡ length ts
length_swap ts b t = length-set (set ts b (get_or ts t 0)) t 0 ∙ length-set ts b (get_or ts t 0)

pub small_swap : (ts : List ℕ) (b t : ℕ) → t < length ts → All Small ts → All Small (tiles_after_swap ts b t)
small_swap ts b t ht small =
    All-set Small _ t 0 (omega arith) (All-set Small ts b _ (All-get_or Small ts t 0 ht small) small)

-- a level's board has at most sixteen cells
pub few_cells : (w h : ℕ) → w ≤ 4 → h ≤ 4 → w * h ≤ 16
few_cells w h hw hh = mul-le w h 4 4 hw hh
