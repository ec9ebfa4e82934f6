-- Numbers of placements. Assumes nothing.
use Rattle.std.proofs.Common.{◌≡◌, ℕ, zero, suc, ◌+◌, ◌-◌, ◌*◌, ◌/◌, ◌%◌, ◌^◌, ◌<◌, ◌≤◌, true, not, Bool, List, [], ◌∷◌, ◌++◌, length, get_or, set, take, drop, sym, refl, ap, ◌∙◌, subst, ⊎_elim, add-one, arith}
use Rattle.std.proofs.Math.Nat.{pow-zero, pow-suc}
use Rattle.std.proofs.lemmas.Nat.{mul-add-lt, same_from_place, mod_below, div_below, div-add-mod'}
use Rattle.std.proofs.lemmas.List.{length-set, length_push, length-take-le, get_or-take, take_more, drop-set}
use Rattle.std.proofs.lemmas.Bool.{not_from_false, not-true, cases_lt}
use Rattle.pictures.specs.Pictures.{Shape}
use Rattle.atoms.specs.Board.{is_wall_at}
use Rattle.pattern_databases.specs.Floor.{free_cells, free_count, free_number, IsFree}
use Rattle.pattern_databases.specs.PartMoves.{Stands}
use Rattle.pattern_databases.specs.Layout.{placement_number}
use Rattle.pattern_databases.proofs.Numbering.{rank, each_ranked, stands_at, number_is_rank}

module _ (b : Shape) where
  -- a cell is no wall
  abbrev pub unwalled : ℕ → Bool
  unwalled cell = not (is_wall_at b cell)

  pub is_unwalled : (cell : ℕ) → IsFree b cell → unwalled cell ≡ true
  is_unwalled cell free = not_from_false _ free.unwalled

  -- the number of a free cell is how many free cells there are before it
  pub free_number_rank : (cell : ℕ) → IsFree b cell → free_number b cell ≡ rank unwalled cell
  free_number_rank cell free = number_is_rank unwalled (length b.cells) cell free.inside (is_unwalled cell free)

  -- a free cell has a number among them
  pub free_number_below : (cell : ℕ) → IsFree b cell → free_number b cell < free_count b
  free_number_below cell free =
      omega (arith, free_number_rank cell free, (stands_at unwalled (length b.cells) cell free.inside (is_unwalled cell free)).0)

  -- each number below their count is that of a free cell
  pub free_cell_at : (i : ℕ) → i < free_count b → IsFree b (get_or (free_cells b) i 0)
  free_cell_at i h =
      let at = each_ranked unwalled (length b.cells) i h in
      record { inside = at.below; unwalled = not-true _ at.passes }

  pub free_number_at : (i : ℕ) → i < free_count b → free_number b (get_or (free_cells b) i 0) ≡ i
  free_number_at i h = free_number_rank _ (free_cell_at i h) ∙ (each_ranked unwalled (length b.cells) i h).place

  -- the free cells by number
  pub free_cell_of : (cell : ℕ) → IsFree b cell → get_or (free_cells b) (free_number b cell) 0 ≡ cell
  free_cell_of cell free =
      ap (λ i. get_or (free_cells b) i 0) (free_number_rank cell free)
      ∙ (stands_at unwalled (length b.cells) cell free.inside (is_unwalled cell free)).1

  -- and no other free cell has it
  pub free_number_one : (cell other : ℕ) → IsFree b cell → IsFree b other → free_number b cell ≡ free_number b other
      → cell ≡ other
  free_number_one cell other free also same =
      sym (free_cell_of cell free) ∙ ap (λ i. get_or (free_cells b) i 0) same ∙ free_cell_of other also

  -- the atoms behind the first one
  stands_rest : (cell : ℕ) (cells : List ℕ) (size : ℕ) → Stands b (suc size) (cell ∷ cells) → Stands b size cells
  stands_rest cell cells size stands = record {
    long = omega (arith, stands.long);
    free = λ atom h. stands.free (suc atom) (omega arith);
  }

  -- one more atom before the others
  pub stands_more : (cell : ℕ) (cells : List ℕ) (size : ℕ) → IsFree b cell → Stands b size cells → Stands b (suc size) (cell ∷ cells)
  stands_more cell cells size free stands = record { long = omega (arith, stands.long); free = each }
    where
      each : (atom : ℕ) → atom < suc size → IsFree b (get_or (cell ∷ cells) atom 0)
      each zero h = free
      each (suc atom) h = stands.free atom (omega arith)

  -- the first atoms
  pub stands_take : (n : ℕ) (cells : List ℕ) → n ≤ length cells → Stands b (length cells) cells → Stands b n (take n cells)
  stands_take n cells fits stands = record {
    long = length-take-le n cells fits;
    free = λ atom h. subst (IsFree b) (sym (get_or-take n cells atom 0 h)) (stands.free atom (omega arith));
  }

  -- the number with one more atom behind the others
  pub number_push : (cells : List ℕ) (cell : ℕ)
      → placement_number b (cells ++ (cell ∷ [])) ≡ placement_number b cells * free_count b + free_number b cell
  number_push [] cell = omega (arith, ap (λ k. free_number b cell * k) (pow-zero (free_count b)))
  number_push (first ∷ cells) cell =
      let f = free_count b in
      let n = length cells in
      let longer = ap (λ k. free_number b first * f ^ k) (length_push cells cell ∙ add-one n) ∙ ap (λ k. free_number b first * k) (pow-suc f n) in
      omega (arith, longer, number_push cells cell)

  -- placements are numbered below their count
  pub number_below : (cells : List ℕ) → Stands b (length cells) cells → placement_number b cells < free_count b ^ length cells
  number_below [] stands = omega (arith, pow-zero (free_count b))
  number_below (cell ∷ cells) stands =
      omega (
        arith,
        pow-suc (free_count b) (length cells),
        mul-add-lt (free_number b cell) (free_count b ^ length cells) (placement_number b cells) (free_count b)
            (free_number_below cell (stands.free 0 (omega arith)))
            (number_below cells (stands_rest cell cells _ stands)),
      )

  -- and no two have one number
  pub number_one : (cells other : List ℕ) → Stands b (length cells) cells → Stands b (length cells) other
      → placement_number b cells ≡ placement_number b other → cells ≡ other
  number_one [] [] stands also same = refl
  number_one [] (to ∷ other) stands also same = absurd (omega (arith, also.long))
  number_one (cell ∷ cells) [] stands also same = absurd (omega (arith, also.long))
  number_one (cell ∷ cells) (to ∷ other) stands also same =
      let n = length cells in
      let rest = stands_rest cell cells n stands in
      let rest_also = stands_rest to other n also in
      let equal = same_from_place (free_number b cell) (placement_number b cells) (free_number b to) (placement_number b other)
      (free_count b ^ n) (number_below cells rest)
      (subst (λ k. placement_number b other < free_count b ^ k) rest_also.long (number_below other (subst (λ k. Stands b k other) (sym rest_also.long) rest_also)))
      (same ∙ ap (λ k. free_number b to * free_count b ^ k + placement_number b other) rest_also.long) in
      let first = free_number_one cell to (stands.free 0 (omega arith)) (also.free 0 (omega arith)) equal.0 in
      let others = number_one cells other rest rest_also equal.1 in
      cc

  -- the number after one atom went to another cell
  pub number_after : (cells : List ℕ) (atom to : ℕ) → atom < length cells
      → placement_number b (set cells atom to) + free_number b (get_or cells atom 0) * free_count b ^ (length cells - 1 - atom)
      ≡ placement_number b cells + free_number b to * free_count b ^ (length cells - 1 - atom)
  number_after [] atom to there = absurd (omega arith)
  number_after (cell ∷ cells) zero to there =
      let e : suc (length cells) - 1 - 0 ≡ length cells = omega arith in
      rw e (omega arith)
  number_after (cell ∷ cells) (suc atom) to there =
      let e : suc (length cells) - 1 - suc atom ≡ length cells - 1 - atom = omega arith in
      rw (e, length-set cells atom to) (omega (arith, number_after cells atom to (omega arith)))

  -- the number of the first atoms, one more of them
  pub number_more : (cells : List ℕ) (i : ℕ) → i < length cells → placement_number b (take (i + 1) cells)
      ≡ placement_number b (take i cells) * free_count b + free_number b (get_or cells i 0)
  number_more cells i h = ap (placement_number b) (take_more cells i 0 h) ∙ number_push (take i cells) (get_or cells i 0)

  pub number_take_below : (cells : List ℕ) (i : ℕ) → i ≤ length cells → Stands b (length cells) cells
      → placement_number b (take i cells) < free_count b ^ i
  number_take_below cells i fits stands =
      let first = stands_take i cells fits stands in
      subst (λ n. placement_number b (take i cells) < free_count b ^ n) first.long
      (number_below (take i cells) (subst (λ n. Stands b n (take i cells)) (sym first.long) first))

  -- a number is unpacked from the last atom on: these stand, from an atom on, and the rest is for the atoms before it
  pub record Unpacked (size number : ℕ) (cells : List ℕ) (rest atom : ℕ) : Type 0 where
    pub long : length cells ≡ 16
    pub stands : Stands b (size - atom) (take (size - atom) (drop atom cells))
    pub packed : placement_number b (take (size - atom) (drop atom cells)) + rest * free_count b ^ (size - atom) ≡ number
    pub below : rest < free_count b ^ atom

  pub unpacked_none : (size number : ℕ) (cells : List ℕ) → length cells ≡ 16 → number < free_count b ^ size
      → Unpacked size number cells number size
  unpacked_none size number cells long below =
      let none : size - size ≡ 0 = omega arith in
      record {
        long = long;
        stands = rw none (record { long = refl; free = λ atom h. absurd (omega arith) });
        packed = rw none (omega (arith, ap (λ k. number * k) (pow-zero (free_count b))));
        below = below;
      }

  -- there is a cell for the next atom
  pub some_free : (rest atom : ℕ) → 0 < atom → rest < free_count b ^ atom → 0 < free_count b
  some_free rest zero there below = absurd (omega arith)
  some_free rest (suc atom) there below =
      ⊎_elim (λ some. some)
      (λ none. let f = free_count b in let zero : f ≡ 0 = omega arith in
      absurd (omega (arith, pow-suc f atom, ap (λ k. f ^ atom * k) zero)))
      (cases_lt 0 (free_count b))

  -- one atom more
  pub unpacked_more : (size number : ℕ) (cells : List ℕ) (rest atom : ℕ) → atom < size → size ≤ 16
      → Unpacked size number cells rest (atom + 1)
      → Unpacked size number (set cells atom (get_or (free_cells b) (rest % free_count b) 0)) (rest / free_count b) atom
  unpacked_more size number cells rest atom h few before =
      let f = free_count b in
      let k = size - (atom + 1) in
      let behind = take k (drop (atom + 1) cells) in
      let some : 0 < f = some_free rest (atom + 1) (omega arith) before.below in
      let r = rest % f in
      let cell = get_or (free_cells b) r 0 in
      let inside : r < f = mod_below rest f some in
      let size_is : size - atom ≡ suc k = omega arith in
      let tail : take (size - atom) (drop atom (set cells atom cell)) ≡ cell ∷ behind =
      ap (take (size - atom)) (drop-set cells atom cell (omega (arith, before.long))) ∙ ap (λ n. take n (cell ∷ drop (atom + 1) cells)) size_is in
      let first = ap (λ n. n * f ^ length behind) (free_number_at r inside) ∙ ap (λ n. r * f ^ n) before.stands.long in
      let split = ap (λ n. n * f ^ k) (div-add-mod' rest f) in
      record {
        long = length-set cells atom cell ∙ before.long;
        stands = rw (tail, size_is) (stands_more cell behind k (free_cell_at r inside) before.stands);
        packed = rw (tail, size_is, pow-suc f k) (omega (arith, first, split, before.packed));
        below = div_below rest f (f ^ atom) some (omega (arith, before.below, pow-suc f atom, ap (λ n. f ^ n) (add-one atom)));
      }

  -- all atoms
  pub unpacked_all : (size number : ℕ) (cells : List ℕ) (rest : ℕ) → Unpacked size number cells rest 0
      → Stands b size (take size cells) × (placement_number b (take size cells) ≡ number)
  unpacked_all size number cells rest whole =
      let f = free_count b in
      let none : rest ≡ 0 = omega (arith, whole.below, pow-zero f) in
      let all : size - 0 ≡ size = omega arith in
      let stands = subst (λ n. Stands b n (take n cells)) all whole.stands in
      let packed = subst (λ n. placement_number b (take n cells) + rest * f ^ n ≡ number) all whole.packed in
      (stands, omega (arith, packed, ap (λ n. n * f ^ size) none))
