-- What one atom adds to the number of a placement, and the number after it went. Assumes nothing.
use Rattle.std.proofs.Common.{◌≡◌, ℕ, zero, suc, ◌+◌, ◌-◌, ◌*◌, ◌^◌, ◌<◌, ◌≤◌, List, [], ◌∷◌, length, get_or, set, arith}
use Rattle.std.proofs.Math.Nat.{pow-le-pow_right}
use Rattle.pictures.specs.Pictures.{Shape}
use Rattle.pattern_databases.specs.Floor.{free_count, free_number, IsFree}
use Rattle.pattern_databases.specs.Layout.{placement_number}
use Rattle.pattern_databases.proofs.Placements.{free_number_below, number_after}

module _ (b : Shape) where
  -- how many numbers one step of an atom counts
  abbrev pub weight : List ℕ → ℕ → ℕ
  weight cells atom = free_count b ^ (length cells - 1 - atom)

  -- what an atom adds
  abbrev pub share : List ℕ → ℕ → ℕ
  share cells atom = free_number b (get_or cells atom 0) * weight cells atom

  -- it is a part of the number
  pub share_within : (cells : List ℕ) (atom : ℕ) → atom < length cells → share cells atom ≤ placement_number b cells
  share_within [] atom there = absurd (omega arith)
  share_within (cell ∷ cells) zero there =
      let last : length (cell ∷ cells) - 1 - zero ≡ length cells = omega arith in
      rw last (omega arith)
  share_within (cell ∷ cells) (suc atom) there =
      let next : length (cell ∷ cells) - 1 - suc atom ≡ length cells - 1 - atom = omega arith in
      rw next (omega (arith, share_within cells atom (omega arith)))

  -- the number once the atom is on another cell
  pub number_moved : (cells : List ℕ) (atom to : ℕ) → atom < length cells
      → placement_number b cells - share cells atom + free_number b to * weight cells atom
      ≡ placement_number b (set cells atom to)
  number_moved cells atom to there = omega (arith, number_after b cells atom to there, share_within cells atom there)

  -- fewer atoms have no more placements
  pub fewer_placements : (cell : ℕ) → IsFree b cell → (n size : ℕ) → n ≤ size → free_count b ^ n ≤ free_count b ^ size
  fewer_placements cell free n size less = pow-le-pow_right (omega (arith, free_number_below b cell free)) less
