-- How many placements parts have, and how many bytes books: they fit. Assumes nothing.
use Rattle.std.proofs.Common.{◌≡◌, ℕ, zero, suc, ◌+◌, ◌-◌, ◌*◌, ◌^◌, ◌<◌, ◌≤◌, ◌≢◌, [], length, get_or, map, take, sum, min, sym, ap, ◌∙◌, ⊎_elim, arith}
use Rattle.std.specs.List.{range_with_len}
use Rattle.std.proofs.Math.Nat.{pow-zero, pow-suc, pow-le-pow_left, pow-le-pow_right}
use Rattle.std.proofs.lemmas.Bool.{cases_eq}
use Rattle.std.proofs.lemmas.List.{length-take, take_all}
use Rattle.std.proofs.lemmas.List.Elements.{All-from_get_or, All-take, All-map}
use Rattle.std.proofs.lemmas.List.Sums.{sum-map, sum_by-le, sum_by_more, length-filter, count_by-le-length}
use Rattle.std.proofs.lemmas.List.FromFn.{length-range_with_len, get_or-range_with_len}
use Rattle.pictures.specs.declared.picture.Picture.{Picture}
use Rattle.pictures.specs.Pictures.{shape}
use Rattle.molecules.specs.GoalPlaces.{is_goal_place}
use Rattle.atoms.specs.Level.{Atoms, count}
use Rattle.pattern_databases.specs.Floor.{free_count}
use Rattle.pattern_databases.specs.Parts.{part_of, part_count}
use Rattle.pattern_databases.specs.Layout.{places, parts, block_length, first_blocks, place_length}
use Rattle.pattern_databases.specs.inside.Blocks.{Small, IsPart}
use Rattle.pattern_databases.proofs.PartAtoms.{length_part, length_parts, part_at}

-- a power that fits is no less than those of smaller exponents, but for 0 to the 0
pub power_less : (f m n bound : ℕ) → m ≤ n → 1 ≤ bound → f ^ n ≤ bound → f ^ m ≤ bound
power_less f zero n bound less some fits = omega (arith, pow-zero f)
power_less f (suc m) n bound less some fits =
    ⊎_elim (λ (none : f ≡ 0). rw (pow-suc f m) (omega (arith, ap (λ k. f ^ m * k) none)))
    (λ (one : f ≢ 0). let there : 0 < f = omega arith in omega (arith, pow-le-pow_right there less))
    (cases_eq f 0)

-- a picture has at most 256 cells
pub few_cells : (p : Picture) → length (shape p).cells ≤ 256
few_cells p = omega (arith, length-take (p.grid.width * p.grid.height) p.cells, p.filled)

-- fewer atoms have no more placements
pub small_less : (l : Atoms) (m n : ℕ) → m ≤ n → Small l n → Small l m
small_less l m n less small = power_less (free_count l.board) m n 4294967296 less (omega arith) small

-- two cells of 256
pub power_few : (f n : ℕ) → f ≤ 256 → n ≤ 2 → f ^ n ≤ 65536
power_few f n few size = power_less f n 2 65536 size (omega arith) (pow-le-pow_left few 2)

module _ (l : Atoms) where
  -- the placements of parts are few enough
  module _ (few : free_count l.board ≤ 256) where
    pub block_few : (j : ℕ) → block_length l (part_of (count l) j) ≤ 65536
    block_few j = power_few (free_count l.board) (length (part_of (count l) j)) few (omega (arith, length_part (count l) j))

    -- a part is one
    pub is_part : count l ≤ 16 → (j : ℕ) → j < part_count (count l) → IsPart l (part_of (count l) j)
    is_part sixteen j h =
        let n = count l in
        let size = length_part n j in
        record {
          some = omega (arith, size);
          few = omega (arith, size);
          atoms = λ i inside. omega (arith, size, get_or-range_with_len (j * 2) (min 2 (n - j * 2)) i 0 (omega (arith, size)));
          small = omega (arith, block_few j);
        }

    -- the first parts have few bytes at a goal place
    pub blocks_few : count l ≤ 16 → (j : ℕ) → first_blocks l j ≤ 524288
    blocks_few sixteen j =
        let n = count l in
        let first = take j (parts l) in
        let each = All-take (λ part. block_length l part ≤ 65536) j (parts l)
        (All-map (λ part. block_length l part ≤ 65536) (part_of n) (range_with_len 0 (part_count n))
        (All-from_get_or (λ k. block_length l (part_of n k) ≤ 65536) (range_with_len 0 (part_count n)) 0 (λ i h. block_few (get_or (range_with_len 0 (part_count n)) i 0))))
        in
        omega (arith, sum-map (block_length l) first, sum_by-le (block_length l) 65536 first each, length-take j (parts l), length_parts n)

  -- there are at most 256 goal places
  pub places_few : length l.board.cells ≤ 256 → length (places l) ≤ 256
  places_few few =
      let test = is_goal_place l.board l.molecule in
      let all = range_with_len 0 (length l.board.cells) in
      omega (arith, length-filter test all, count_by-le-length test all, length-range_with_len 0 (length l.board.cells))

  -- the bytes of the first j parts and of the next one
  pub first_blocks_more : (j : ℕ) → j < part_count (count l)
      → first_blocks l (j + 1) ≡ first_blocks l j + block_length l (part_of (count l) j)
  first_blocks_more j h =
      let size = block_length l in
      let inside : j < length (parts l) = omega (arith, length_parts (count l)) in
      sum-map size (take (j + 1) (parts l))
      ∙ sum_by_more size (parts l) j [] inside
      ∙ ap (λ n. n + size (get_or (parts l) j [])) (sym (sum-map size (take j (parts l))))
      ∙ ap (λ part. first_blocks l j + size part) (part_at (count l) j [] h)

  -- and of all parts
  pub first_blocks_all : (j : ℕ) → part_count (count l) ≤ j → first_blocks l j ≡ place_length l
  first_blocks_all j h = ap (λ xs. sum (map (block_length l) xs)) (take_all j (parts l) (omega (arith, length_parts (count l))))
