-- The parts of a level's atoms: each atom is in just one of them, and there once. Assumes nothing.
use Rattle.std.proofs.Common.{◌≡◌, ℕ, ◌+◌, ◌-◌, ◌*◌, ◌/◌, ◌%◌, ◌<◌, List, [], length, get_or, min, ap, ◌∙◌, arith}
use Rattle.std.proofs.lemmas.List.FromFn.{length-range_with_len, get_or-range_with_len, length-map-range_with_len, get_or-map-range_with_len}
use Rattle.pattern_databases.specs.Parts.{part_of, part_count, parts_of}

-- the part with number j, and its atom with number i
abbrev pub part_at : List (List ℕ) → ℕ → List ℕ
part_at parts j = get_or parts j []

abbrev pub atom_at : List (List ℕ) → ℕ → ℕ → ℕ
atom_at parts j i = get_or (part_at parts j) i 0

-- where an atom is among the parts
pub record IsIn (parts : List (List ℕ)) (a : ℕ) : Type 0 where
  pub number : ℕ
  pub place : ℕ
  pub part_there : number < length parts
  pub there : place < length (part_at parts number)
  pub is : atom_at parts number place ≡ a

-- the parts of n atoms
pub record Parting (n : ℕ) (parts : List (List ℕ)) : Type 0 where
  pub atoms : (j i : ℕ) → j < length parts → i < length (part_at parts j) → atom_at parts j i < n
  pub each : (a : ℕ) → a < n → IsIn parts a
  pub once : (j i k m : ℕ) → j < length parts → i < length (part_at parts j) → k < length parts → m < length (part_at parts k)
      → atom_at parts j i ≡ atom_at parts k m → (j ≡ k) × (i ≡ m)

module _ (n : ℕ) where
  count_parts : length (parts_of n) ≡ part_count n
  count_parts = length-map-range_with_len (part_of n) 0 (part_count n)

  part_is : (j : ℕ) → j < length (parts_of n) → part_at (parts_of n) j ≡ part_of n j
  part_is j h = get_or-map-range_with_len (part_of n) 0 (part_count n) j j [] (omega (arith, count_parts)) (omega arith)

  length_part : (j : ℕ) → j < length (parts_of n) → length (part_at (parts_of n) j) ≡ min 2 (n - j * 2)
  length_part j h = ap length (part_is j h) ∙ length-range_with_len (j * 2) (min 2 (n - j * 2))

  -- atoms 2 j and 2 j + 1
  atom_is : (j i : ℕ) → j < length (parts_of n) → i < length (part_at (parts_of n) j) → atom_at (parts_of n) j i ≡ j * 2 + i
  atom_is j i h k =
      ap (λ (part : List ℕ). get_or part i 0) (part_is j h)
      ∙ get_or-range_with_len (j * 2) (min 2 (n - j * 2)) i 0 (omega (arith, length_part j h))

  -- pairs, and the last atom alone
  pub pairs : Parting n (parts_of n)
  pairs = record {
    atoms = λ j i h k. omega (arith, atom_is j i h k, length_part j h);
    each = λ a h.
        let there : a / 2 < length (parts_of n) = omega (arith, count_parts) in
        let inside : a % 2 < length (part_at (parts_of n) (a / 2)) = omega (arith, length_part (a / 2) there) in
        record {
          number = a / 2;
          place = a % 2;
          part_there = there;
          there = inside;
          is = omega (arith, atom_is (a / 2) (a % 2) there inside);
        };
    once = λ j i k m hj hi hk hm same.
        let one = atom_is j i hj hi in
        let other = atom_is k m hk hm in
        let few = length_part j hj in
        let also = length_part k hk in
        (omega arith, omega arith);
  }
