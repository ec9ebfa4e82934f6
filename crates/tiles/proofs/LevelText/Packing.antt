-- A row's numbers packed one by one, and a row packed behind the rows before it. Assumes nothing.
use Rattle.std.proofs.Common.{◌≡◌, ℕ, suc, ◌+◌, ◌-◌, ◌*◌, ◌%◌, ◌^◌, ◌<◌, ◌≤◌, cond, ltb, List, [], ◌∷◌, ◌++◌, length, Some, None, Option, sym, refl, ap, ◌∙◌, mul_assoc, mul_comm, mul-add, mul_left_comm, add-one, arith}
use Rattle.std.specs.List.{All}
use native.Mathlib.Nat.{pow-succ', pow-le-pow_right}
use Rattle.std.proofs.lemmas.Nat.{shl_whole}
use Rattle.std.proofs.lemmas.List.Elements.{All-append, All-cons, All-nil}
use Rattle.std.proofs.lemmas.List.{length-append}
use Rattle.std.proofs.lemmas.Bool.{cond-true, cond-false, lt-ltb, le-ltb}
use Rattle.text.specs.Forms.{◌then◌, number_in}
use Rattle.tiles.specs.Board.{position_of, first_cells}
use Rattle.tiles.proofs.Board.{Small, length_first_cells, small_first_cells, position_of_first_cells, first_cells_position_of, position_of_lt, position_of_append, pow_bits, shl_cell}
use Rattle.tiles.specs.LevelText.Reading.{numbers_in}

-- what follows, packed behind i cells that hold p
abbrev pub behind : ℕ → ℕ → Option (List ℕ) → Option ℕ
behind i p (Some ns) = Some (p + 16 ^ i * position_of ns)
behind i p None = None

-- one cell more
raised : (i p n q : ℕ) → p + 16 ^ i * (n + 16 * q) ≡ p + n * 16 ^ i + 16 ^ (i + 1) * q
raised i p n q =
    let a = 16 ^ i in
    let split : a * (n + 16 * q) ≡ n * a + a * (16 * q) = mul-add a n (16 * q) ∙ ap (λ k. k + a * (16 * q)) (mul_comm a n) in
    let up : 16 ^ (i + 1) * q ≡ a * (16 * q) = ap (λ k. 16 ^ k * q) (add-one i) ∙ ap (λ k. k * q) (pow-succ' 16 i) ∙ mul_assoc 16 a q ∙ mul_left_comm 16 a q in
    omega arith

behind_more : (i p n : ℕ) (o : Option (List ℕ)) → behind i p (o then (λ ns. Some (n ∷ ns))) ≡ behind (i + 1) (p + n * 16 ^ i) o
behind_more i p n (Some ns) = ap Some (raised i p n (position_of ns))
behind_more i p n None = refl

-- a row of w numbers from number i on, by what was read of that number
module _ (limit w i p : ℕ) (l : List ℕ) (h : i < w) where
  abbrev after : Option (ℕ × List ℕ) → Option (List ℕ)
  after o = o then (λ x. cond (ltb x.0 limit) (numbers_in limit (w - (i + 1)) x.1 then (λ ns. Some (x.0 ∷ ns))) None)

  row_step : (o : Option (ℕ × List ℕ)) → o ≡ number_in l → behind i p (numbers_in limit (w - i) l) ≡ behind i p (after o)
  row_step o e =
      let more : w - i ≡ suc (w - (i + 1)) = omega arith in
      ap (λ j. behind i p (numbers_in limit j l)) more ∙ ap (λ x. behind i p (after x)) (sym e)

  pub row_missing : None ≡ number_in l → behind i p (numbers_in limit (w - i) l) ≡ None
  row_missing e = row_step None e

  pub row_large : (n : ℕ) (rest : List ℕ) → Some (n, rest) ≡ number_in l → limit ≤ n → behind i p (numbers_in limit (w - i) l) ≡ None
  row_large n rest e large = row_step (Some (n, rest)) e ∙ ap (behind i p) (cond-false (ltb n limit) _ _ (le-ltb n limit large))

  pub row_more : (n : ℕ) (rest : List ℕ) → Some (n, rest) ≡ number_in l → n < limit → behind i p (numbers_in limit (w - i) l) ≡ behind (i + 1) (p + n * 16 ^ i) (numbers_in limit (w - (i + 1)) rest)
  row_more n rest e small =
      row_step (Some (n, rest)) e
      ∙ ap (behind i p) (cond-true (ltb n limit) _ _ (lt-ltb n limit small))
      ∙ behind_more i p n (numbers_in limit (w - (i + 1)) rest)

-- a row of numbers behind the count cells that hold p
pub record Added (p count w v : ℕ) (ns : List ℕ) : Type 0 where
  pub fits : p + (v * 2 ^ (4 * count)) % 2 ^ 64 < 2 ^ 64
  pub tiles : first_cells (count + w) (p + (v * 2 ^ (4 * count)) % 2 ^ 64) ≡ first_cells count p ++ ns
  pub below : p + (v * 2 ^ (4 * count)) % 2 ^ 64 < 16 ^ (count + w)

pub added : (p count w v : ℕ) (ns : List ℕ) → p < 16 ^ count → count + w ≤ 16 → length ns ≡ w → All Small ns → v ≡ position_of ns → Added p count w v ns
added p count w v ns below room size small is =
    let ts = first_cells count p in
    let both : All Small (ts ++ ns) = All-append Small ts ns (small_first_cells count p) small in
    let long : length ts ≡ count = length_first_cells count p in
    let all : length (ts ++ ns) ≡ count + w = omega (arith, length-append ts ns) in
    let row : v < 16 ^ w = omega (arith, position_of_lt ns small, ap (λ k. 16 ^ k) size) in
    let whole = shl_whole v (4 * w) (4 * count) 64 (omega (arith, pow_bits w)) (omega arith) in
    let shifted : (v * 2 ^ (4 * count)) % 2 ^ 64 ≡ 16 ^ count * position_of ns =
    whole ∙ ap (λ k. v * k) (sym (pow_bits count)) ∙ mul_comm v (16 ^ count) ∙ ap (λ k. 16 ^ count * k) is in
    let sum : p + (v * 2 ^ (4 * count)) % 2 ^ 64 ≡ position_of (ts ++ ns) =
    ap (λ k. p + k) shifted ∙ ap (λ k. k + 16 ^ count * position_of ns) (sym (position_of_first_cells count p below)) ∙ ap (λ k. position_of ts + 16 ^ k * position_of ns) (sym long) ∙ sym (position_of_append ts ns) in
    let most : position_of (ts ++ ns) < 16 ^ (count + w) = omega (arith, position_of_lt (ts ++ ns) both, ap (λ k. 16 ^ k) all) in
    let top : 16 ^ (count + w) ≤ 16 ^ 16 = pow-le-pow_right (omega arith) room in
    record {
      fits = omega arith;
      tiles = ap (first_cells (count + w)) sum ∙ ap (λ k. first_cells k (position_of (ts ++ ns))) (sym all) ∙ first_cells_position_of (ts ++ ns) both;
      below = omega arith;
    }

-- one number more in a row
pub record AddedCell (p i v : ℕ) : Type 0 where
  pub fits : p + (v * 2 ^ (4 * i)) % 2 ^ 64 < 2 ^ 64
  pub sum : p + (v * 2 ^ (4 * i)) % 2 ^ 64 ≡ p + v * 16 ^ i
  pub below : p + (v * 2 ^ (4 * i)) % 2 ^ 64 < 16 ^ (i + 1)

pub added_cell : (p i v : ℕ) → p < 16 ^ i → i < 16 → Small v → AddedCell p i v
added_cell p i v below room small =
    let one = added p i 1 v (v ∷ []) below (omega arith) refl (All-cons Small v [] small (All-nil Small)) (omega arith) in
    record { fits = one.fits; sum = ap (λ k. p + k) (shl_cell v i small room); below = one.below }
