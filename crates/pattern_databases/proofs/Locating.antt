-- Which bytes of a goal place are a position's. Assumes nothing.
use Rattle.std.proofs.Common.{◌≡◌, ℕ, ◌+◌, ◌*◌, ◌^◌, ◌<◌, ◌≤◌, ◌≢◌, List, [], ◌∷◌, map, length, get_or, set, replicate, take, sym, refl, ap, ◌∙◌, subst, ⊎_elim, add-one, add_assoc, arith}
use Rattle.std.proofs.Math.Nat.{pow-zero, pow-succ'}
use Rattle.std.proofs.lemmas.Nat.{mul-add-lt}
use Rattle.std.specs.List.{range_with_len}
use Rattle.std.proofs.lemmas.List.{length-replicate, length-set, length-take-le, get_or-map, get_or-take, get_or-set_same, get_or-set_other, take_all}
use Rattle.std.proofs.lemmas.List.Elements.{All-from_get_or}
use Rattle.std.proofs.lemmas.List.FromFn.{fill_by_all}
use Rattle.std.proofs.lemmas.Bool.{cases_eq}
use Rattle.std.proofs.lemmas.List.Sums.{sum-map, sum_by_more_le}
use Rattle.atoms.specs.declared.position.Position.{Position}
use Rattle.atoms.specs.Level.{Atoms, count}
use Rattle.pattern_databases.specs.Floor.{free_count, free_number, IsFree}
use Rattle.pattern_databases.specs.PartMoves.{Stands}
use Rattle.pattern_databases.specs.Layout.{places, parts, block_length, first_blocks, place_length, placement_number}
use Rattle.pattern_databases.specs.Meaning.{sum_of, least_of, cells_of, byte_of, place_bound, bound}
use Rattle.pattern_databases.specs.inside.Blocks.{Small}
use Rattle.pattern_databases.specs.inside.Bounds.{OnFree, location, locations, Inside, sum_at, least_sum}
use Rattle.pattern_databases.specs.laws.Parting.{pairs}
use Rattle.pattern_databases.specs.laws.Moving.{part_stands}
use Rattle.pattern_databases.specs.declared.layout.Layout.{Layout}
use Rattle.pattern_databases.proofs.Placements.{number_more}
use Rattle.pattern_databases.proofs.Sizes.{small_less}
use Rattle.pattern_databases.proofs.Layouts.{level_of}

module _ (s : Layout) (p : Position) (part : List ℕ) where
  abbrev l : Atoms
  l = level_of s

  abbrev f : ℕ
  f = free_count l.board

  abbrev cells : List ℕ
  cells = cells_of p part

  -- the number of the first i atoms, whether or not all stand on free cells
  pub record Numbered (i number : ℕ) : Type 0 where
    pub below : number < f ^ i
    pub is : Stands l.board (length part) cells → number ≡ placement_number l.board (take i cells)

  pub numbered_none : Numbered 0 0
  numbered_none = record { below = omega (arith, pow-zero f); is = λ _. refl }

  module _ (i number atom cell next : ℕ) (numbered : Numbered i number) (there : i < length part)
      (atom_is : atom ≡ get_or part i 0) (cell_is : cell ≡ get_or p.cells atom 0) (next_is : next ≡ get_or s.numbers cell 0) where
    next_below : number * s.count + next < f ^ (i + 1)
    next_below =
        let low : next < f = omega (arith, s.below cell, s.counted) in
        let more = mul-add-lt number f next (f ^ i) numbered.below low in
        let power : f ^ (i + 1) ≡ f * f ^ i = ap (λ k. f ^ k) (add-one i) ∙ pow-succ' f i in
        omega (arith, ap (λ k. number * k) s.counted)

    pub numbered_fits : Small l (length part) → number * s.count + next ≤ 4294967296
    numbered_fits small = omega (arith, next_below, small_less l (i + 1) (length part) (omega arith) small)

    pub numbered_more : Numbered (i + 1) (number * s.count + next)
    numbered_more = record { below = next_below; is = by }
      where
        by : Stands l.board (length part) cells → number * s.count + next ≡ placement_number l.board (take (i + 1) cells)
        by stands =
            let here : get_or cells i 0 ≡ cell =
            get_or-map (λ a. get_or p.cells a 0) part i 0 0 there ∙ sym (cell_is ∙ ap (λ a. get_or p.cells a 0) atom_is) in
            let free = subst (IsFree l.board) here (stands.free i there) in
            ap (λ n. number * n + next) s.counted
            ∙ ap (λ n. n * f + next) (numbered.is stands)
            ∙ ap (λ n. placement_number l.board (take i cells) * f + n) (next_is ∙ s.numbered cell free ∙ ap (free_number l.board) (sym here))
            ∙ sym (number_more l.board cells i (omega (arith, stands.long)))

  pub numbered_all : (i number : ℕ) → length part ≤ i → Numbered i number
      → Stands l.board (length part) cells → number ≡ placement_number l.board cells
  numbered_all i number all numbered stands =
      numbered.is stands ∙ ap (placement_number l.board) (take_all i cells (omega (arith, stands.long)))

-- The bytes of all parts.

map_same : {X Y : Type 0} {f g : X → Y} → ((x : X) → f x ≡ g x) → (xs : List X) → map f xs ≡ map g xs
map_same same [] = refl
map_same {f = f} {g = g} same (x ∷ xs) = ap (λ y. y ∷ map f xs) (same x) ∙ ap (λ ys. g x ∷ ys) (map_same same xs)

map_map_same : {X Y Z : Type 0} (h : Y → Z) (f : X → Y) (g : X → Z) → ((x : X) → h (f x) ≡ g x) → (xs : List X) → map h (map f xs) ≡ map g xs
map_map_same h f g same [] = refl
map_map_same h f g same (x ∷ xs) = ap (λ y. y ∷ map h (map f xs)) (same x) ∙ ap (λ ys. g x ∷ ys) (map_map_same h f g same xs)

module _ (l : Atoms) where
  -- the bytes of a part are among those of a goal place
  block_within : (j : ℕ) → j < length (parts l) → first_blocks l j + block_length l (get_or (parts l) j []) ≤ place_length l
  block_within j there =
      let size = block_length l in
      omega (arith, sum-map size (take j (parts l)), sum-map size (parts l), sum_by_more_le size (parts l) j [] there)

  pub entry_within : (j start number : ℕ) (part : List ℕ) → j < length (parts l) → part ≡ get_or (parts l) j []
      → start ≡ first_blocks l j → number < block_length l part → start + number < place_length l
  entry_within j start number part there is starts below = omega (arith, block_within j there, ap (block_length l) is)

  module _ (p : Position) where
    -- the bytes of the first n parts are inside, and they are the position's where all atoms stand on free cells
    pub record Located (n : ℕ) (entries : List ℕ) : Type 0 where
      pub long : length entries ≡ 16
      pub inside : (j : ℕ) → j < n → get_or entries j 0 < place_length l
      pub is : OnFree l p → (j : ℕ) → j < n → get_or entries j 0 ≡ location l p j

    pub located_none : Located 0 (replicate 16 0)
    located_none = record { long = length-replicate {A = ℕ} 16 0; inside = λ j h. absurd (omega arith); is = λ free j h. absurd (omega arith) }

    -- one part more
    pub located_more : (j start number : ℕ) (part entries : List ℕ) → j < length (parts l) → j < 16 → part ≡ get_or (parts l) j []
        → start ≡ first_blocks l j → number < block_length l part
        → (Stands l.board (length part) (cells_of p part) → number ≡ placement_number l.board (cells_of p part))
        → Located j entries → Located (j + 1) (set entries j (start + number))
    located_more j start number part entries there few part_is starts below is located =
        let sum = start + number in
        let within = entry_within j start number part there part_is starts below in
        let here = get_or-set_same entries j sum 0 (omega (arith, located.long)) in
        let stands = λ (free : OnFree l p). part_stands l (parts l) (pairs (count l)) p j there free in
        let numbers = subst (λ ps. Stands l.board (length ps) (cells_of p ps) → number ≡ placement_number l.board (cells_of p ps)) part_is is in
        record {
          long = length-set entries j sum ∙ located.long;
          inside = λ k h. ⊎_elim
              (λ same. omega (arith, ap (λ i. get_or (set entries j sum) i 0) same))
              (λ (other : k ≢ j). omega (arith, get_or-set_other entries j k sum 0 other, located.inside k (omega arith)))
              (cases_eq k j);
          is = λ free k h. ⊎_elim
              (λ same. ap (λ i. get_or (set entries j sum) i 0) same ∙ here
              ∙ ap (λ n. n + number) starts ∙ ap (λ n. first_blocks l j + n) (numbers (stands free)) ∙ ap (location l p) (sym same))
              (λ (other : k ≢ j). get_or-set_other entries j k sum 0 other ∙ located.is free k (omega arith))
              (cases_eq k j);
        }

    module _ (n : ℕ) (entries : List ℕ) (few : n ≤ 16) (all : n ≡ length (parts l)) (located : Located n entries) where
      size : length (take n entries) ≡ n
      size = length-take-le n entries (omega (arith, located.long))

      pub located_inside : Inside l (take (length (parts l)) entries)
      located_inside =
          subst (λ m. Inside l (take m entries)) all
          (All-from_get_or (λ e. e < place_length l) (take n entries) 0
          (λ j h. let inside : j < n = omega (arith, size) in omega (arith, get_or-take n entries j 0 inside, located.inside j inside)))

      pub located_all : OnFree l p → take (length (parts l)) entries ≡ locations l p
      located_all free =
          let firsts = fill_by_all (location l p) (take n entries) n 0 size (λ k h. get_or-take n entries k 0 h ∙ located.is free k h) in
          subst (λ m. take m entries ≡ map (location l p) (range_with_len 0 m)) all firsts

    -- the sum of the bytes of a position at a goal place
    sum_at_locations : (bytes : List ℕ) (g : ℕ) → sum_at l bytes (locations l p) g ≡ place_bound l bytes p g
    sum_at_locations bytes g =
        ap sum_of (map_map_same (λ e. get_or bytes (g * place_length l + e) 0) (location l p) (byte_of l bytes p g)
        (λ j. ap (λ k. get_or bytes k 0) (sym (add_assoc (g * place_length l) (first_blocks l j) _))) (range_with_len 0 (length (parts l))))

    -- the least of these sums is its bound
    pub least_at_locations : (bytes : List ℕ) → least_sum l bytes (locations l p) ≡ bound l bytes p
    least_at_locations bytes = ap least_of (map_same (sum_at_locations bytes) (range_with_len 0 (length (places l))))
