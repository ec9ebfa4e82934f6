-- The blocks of a book, in the order of their bytes: goal place by goal place, and then part by part. Assumes nothing.
use Rattle.std.proofs.Common.{◌≡◌, ℕ, ◌+◌, ◌-◌, ◌*◌, ◌<◌, ◌≤◌, ◌⊎◌, List, [], ◌++◌, length, get_or, take, drop, slice_range, sym, ap, ◌∙◌, subst, inl, inr, ⊎_elim, arith}
use borrow.Rule.Slice.PartMut.{put_mid}
use Rattle.std.specs.List.{sum_by}
use Rattle.std.proofs.lemmas.Nat.{mul-le}
use Rattle.std.proofs.lemmas.List.Sums.{sum-map, sum_by-take-le}
use Rattle.std.proofs.lemmas.Option.{slice_get_within, slice_get-get_or, get_or_from_slice_get}
use Rattle.std.proofs.lemmas.Bool.{cases_lt}
use Rattle.std.proofs.lemmas.List.{length-append, length-take, length-drop, take-take}
use Rattle.std.proofs.lemmas.List.Edits.{length-between}
use Rattle.std.proofs.lemmas.Slice.{between_is, take-put_mid_below, between-put_mid}
use Rattle.atoms.specs.Level.{Atoms, count}
use Rattle.pattern_databases.specs.Parts.{part_of, part_count}
use Rattle.pattern_databases.specs.Layout.{places, parts, block_length, first_blocks, place_length, book_length, block_start, Block}
use Rattle.pattern_databases.specs.inside.Walking.{ShowsWalls}
use Rattle.pattern_databases.proofs.PartAtoms.{length_parts, part_at}
use Rattle.pattern_databases.proofs.Sizes.{first_blocks_more, first_blocks_all}

-- as many bytes as before, where as many are written
length-put_mid : (a k : ℕ) (xs ys : List ℕ) → a + k ≤ length xs → length ys ≡ k → length (put_mid a k xs ys) ≡ length xs
length-put_mid a k xs ys fits same =
    omega (
      arith,
      length-append (take a xs) (ys ++ drop k (drop a xs)),
      length-append ys (drop k (drop a xs)),
      length-take a xs,
      length-drop k (drop a xs),
      length-drop a xs,
    )

module _ (l : Atoms) where
  -- a block by its numbers
  abbrev pub block_at : (g j : ℕ) → g < length (places l) → j < part_count (count l) → Block l
  block_at g j place_there part_there = record {
    place_number = g;
    place = get_or (places l) g 0;
    place_is = slice_get-get_or (places l) g 0 place_there;
    part_number = j;
    part = get_or (parts l) j [];
    part_is = slice_get-get_or (parts l) j [] (omega (arith, length_parts (count l)));
  }

  -- the numbers of a block
  module _ (k : Block l) where
    pub place_there : k.place_number < length (places l)
    place_there = slice_get_within (places l) k.place_number k.place k.place_is

    pub place_is : k.place ≡ get_or (places l) k.place_number 0
    place_is = sym (get_or_from_slice_get (places l) k.place_number k.place 0 k.place_is)

    pub part_there : k.part_number < part_count (count l)
    part_there = omega (arith, slice_get_within (parts l) k.part_number k.part k.part_is, length_parts (count l))

    pub part_is : k.part ≡ part_of (count l) k.part_number
    part_is = sym (get_or_from_slice_get (parts l) k.part_number k.part [] k.part_is) ∙ part_at (count l) k.part_number [] part_there

  -- the first parts have no more bytes than more of them
  first_blocks_rise : (i n : ℕ) → i ≤ n → first_blocks l i ≤ first_blocks l n
  first_blocks_rise i n h =
      let size = block_length l in
      let all = parts l in
      omega (arith, sum-map size (take i all), sum-map size (take n all), sum_by-take-le size (take n all) i, ap (sum_by size) (take-take i n all h))

  -- nor than all
  first_blocks_within : (j : ℕ) → j ≤ part_count (count l) → first_blocks l j ≤ place_length l
  first_blocks_within j h =
      let n = part_count (count l) in
      omega (arith, first_blocks_rise j n h, first_blocks_all l n (omega arith))

  -- where the bytes of a block end
  abbrev pub block_end : ℕ → ℕ → List ℕ → ℕ
  block_end g j part = block_start l g j + block_length l part

  -- the next block begins there
  pub block_end_next : (g j : ℕ) → j < part_count (count l) → block_end g j (part_of (count l) j) ≡ block_start l g (j + 1)
  block_end_next g j h = omega (arith, first_blocks_more l j h)

  pub block_end_last : (g j : ℕ) → part_count (count l) ≤ j → block_start l g j ≡ block_start l (g + 1) 0
  block_end_last g j h = omega (arith, first_blocks_all l j h)

  -- a block lies in the book
  pub block_inside : (g j : ℕ) → g < length (places l) → j < part_count (count l) → block_end g j (part_of (count l) j) ≤ book_length l
  block_inside g j place_there part_there =
      omega (
        arith,
        block_end_next g j part_there,
        first_blocks_within (j + 1) (omega arith),
        mul-le (g + 1) (place_length l) (length (places l)) (place_length l) (omega arith) (omega arith),
      )

  -- a block comes before that of the goal place with number g and the part with number j
  abbrev pub Before : Block l → ℕ → ℕ → Type 0
  Before k g j = (k.place_number < g) ⊎ ((k.place_number ≡ g) × (k.part_number < j))

  pub before_ends : (k : Block l) (g j : ℕ) → Before k g j → block_end k.place_number k.part_number k.part ≤ block_start l g j
  before_ends k g j before =
      let end = ap (λ part. block_end k.place_number k.part_number part) (part_is k) ∙ block_end_next k.place_number k.part_number (part_there k) in
      ⊎_elim
      (λ (h : k.place_number < g).
      omega (
        arith,
        end,
        first_blocks_within (k.part_number + 1) (omega (arith, part_there k)),
        mul-le (k.place_number + 1) (place_length l) g (place_length l) (omega arith) (omega arith),
      ))
      (λ (h : (k.place_number ≡ g) × (k.part_number < j)).
      omega (arith, end, first_blocks_rise (k.part_number + 1) j (omega arith), ap (λ n. n * place_length l) h.0))
      before

  -- the bytes of a block
  abbrev pub block_bytes : List ℕ → ℕ → ℕ → List ℕ → List ℕ
  block_bytes bytes g j part = slice_range bytes (block_start l g j) (block_end g j part)

  abbrev pub bytes_of : List ℕ → Block l → List ℕ
  bytes_of bytes k = block_bytes bytes k.place_number k.part_number k.part

  -- the block that comes next: it has these bytes
  pub record Next (start end place g : ℕ) (part : List ℕ) (j : ℕ) : Type 0 where
    pub place_there : g < length (places l)
    pub place_is : place ≡ get_or (places l) g 0
    pub part_there : j < part_count (count l)
    pub part_is : part ≡ part_of (count l) j
    pub ends : end ≡ start + block_length l part

  -- What holds of the bytes of each block before one.
  module _ (P : ℕ → List ℕ → List ℕ → Type 0) where
    abbrev pub EachBefore : List ℕ → ℕ → ℕ → Type 0
    EachBefore bytes g j = (k : Block l) → Before k g j → P k.place k.part (bytes_of bytes k)

    pub each_none : (bytes : List ℕ) → EachBefore bytes 0 0
    each_none bytes k before = ⊎_elim (λ (h : k.place_number < 0). absurd (omega arith)) (λ (h : (k.place_number ≡ 0) × (k.part_number < 0)). absurd (omega arith)) before

    -- with the next block
    pub each_more : (bytes : List ℕ) (g j : ℕ) → EachBefore bytes g j
        → P (get_or (places l) g 0) (part_of (count l) j) (block_bytes bytes g j (part_of (count l) j)) → EachBefore bytes g (j + 1)
    each_more bytes g j each next k before =
        ⊎_elim (λ (h : k.place_number < g). each k (inl h))
        (λ (h : (k.place_number ≡ g) × (k.part_number < j + 1)).
        ⊎_elim (λ (less : k.part_number < j). each k (inr (h.0, less)))
        (λ (past : j ≤ k.part_number).
        let part_same : k.part_number ≡ j = omega arith in
        let place_here = place_is k ∙ ap (λ i. get_or (places l) i 0) h.0 in
        let part_here = part_is k ∙ ap (part_of (count l)) part_same in
        subst (λ i. P k.place k.part (block_bytes bytes k.place_number i k.part)) (sym part_same)
        (subst (λ i. P k.place k.part (block_bytes bytes i j k.part)) (sym h.0)
        (subst (λ part. P k.place part (block_bytes bytes g j part)) (sym part_here)
        (subst (λ place. P place (part_of (count l) j) (block_bytes bytes g j (part_of (count l) j))) (sym place_here) next))))
        (cases_lt k.part_number j))
        before

    -- with all blocks of a goal place
    pub each_place : (bytes : List ℕ) (g j : ℕ) → part_count (count l) ≤ j → EachBefore bytes g j → EachBefore bytes (g + 1) 0
    each_place bytes g j all each k before =
        ⊎_elim
        (λ (h : k.place_number < g + 1).
        ⊎_elim (λ (less : k.place_number < g). each k (inl less))
        (λ (past : g ≤ k.place_number). each k (inr (omega arith, omega (arith, part_there k))))
        (cases_lt k.place_number g))
        (λ (h : (k.place_number ≡ g + 1) × (k.part_number < 0)). absurd (omega arith))
        before

    -- with all goal places
    pub each_block : (bytes : List ℕ) (g j : ℕ) → length (places l) ≤ g → EachBefore bytes g j → (k : Block l) → P k.place k.part (bytes_of bytes k)
    each_block bytes g j all each k = each k (inl (omega (arith, place_there k)))

    -- bytes exchanged from the start of a block on leave what holds of those before it
    pub each_kept : (bytes : List ℕ) (g j n : ℕ) (ys : List ℕ) → block_start l g j ≤ length bytes → EachBefore bytes g j
        → EachBefore (put_mid (block_start l g j) n bytes ys) g j
    each_kept bytes g j n ys inside each k before =
        let from = block_start l k.place_number k.part_number in
        let end = block_end k.place_number k.part_number k.part in
        let start = block_start l g j in
        let same = between_is (put_mid start n bytes ys) from end
        ∙ ap (drop from) (take-put_mid_below start n bytes ys end (before_ends k g j before) inside)
        ∙ sym (between_is bytes from end) in
        subst (P k.place k.part) (sym same) (each k before)

    -- A loop over the blocks has come to one: its bytes begin at `start`, and the map shows the walls.
    pub record Reached (bytes map : List ℕ) (start g j : ℕ) : Type 0 where
      pub here : start ≡ block_start l g j
      pub long : length bytes ≡ book_length l
      pub walls : ShowsWalls l.board map
      pub each : EachBefore bytes g j

    pub reached_none : (bytes map : List ℕ) → length bytes ≡ book_length l → ShowsWalls l.board map → Reached bytes map 0 0 0
    reached_none bytes map long walls = record { here = omega arith; long = long; walls = walls; each = each_none bytes }

    module _ {bytes map : List ℕ} {start end place g j : ℕ} {part : List ℕ} (next : Next start end place g part j) (r : Reached bytes map start g j) where
      -- it ends
      end_is : end ≡ block_end g j (part_of (count l) j)
      end_is = omega (arith, next.ends, r.here, ap (block_length l) next.part_is)

      -- where the one behind it begins
      next_start : end ≡ block_start l g (j + 1)
      next_start =
          end_is ∙ block_end_next g j next.part_there

      -- its bytes are there
      pub next_inside : end ≤ length bytes
      next_inside =
          omega (arith, end_is, r.long, block_inside g j next.place_there next.part_there)

      -- how many they are
      pub next_length : length (slice_range bytes start end) ≡ block_length l part
      next_length = length-between bytes start end next_inside ∙ omega (arith, next.ends)

      -- what holds of them, in the block's own words
      holds_here : (xs : List ℕ) → P place part (slice_range xs start end)
          → P (get_or (places l) g 0) (part_of (count l) j) (block_bytes xs g j (part_of (count l) j))
      holds_here xs holds =
          subst (λ e. P (get_or (places l) g 0) (part_of (count l) j) (slice_range xs (block_start l g j) e)) end_is
          (subst (λ a. P (get_or (places l) g 0) (part_of (count l) j) (slice_range xs a end)) r.here
          (subst (λ p. P (get_or (places l) g 0) p (slice_range xs start end)) next.part_is
          (subst (λ p. P p part (slice_range xs start end)) next.place_is holds)))

      -- what holds of each block holds of it
      pub next_holds : ((k : Block l) → P k.place k.part (bytes_of bytes k)) → P place part (slice_range bytes start end)
      next_holds each =
          let here = sym (next.part_is ∙ sym (part_at (count l) j [] next.part_there)) in
          subst (λ p. P p part (slice_range bytes start end)) (sym next.place_is)
          (subst (λ e. P (get_or (places l) g 0) part (slice_range bytes start e)) (sym next.ends)
          (subst (λ a. P (get_or (places l) g 0) part (slice_range bytes a (a + block_length l part))) (sym r.here)
          (subst (λ p. P (get_or (places l) g 0) p (block_bytes bytes g j p)) here (each (block_at g j next.place_there next.part_there)))))

      -- it holds of them, and the map is what it was
      pub reached_met : (after : List ℕ) → after ≡ map → P place part (slice_range bytes start end) → Reached bytes after end g (j + 1)
      reached_met after kept holds = record {
        here = next_start;
        long = r.long;
        walls = subst (ShowsWalls l.board) (sym kept) r.walls;
        each = each_more bytes g j r.each (holds_here bytes holds);
      }

      -- others are written in their place, and it holds of those; the map is what it was
      pub reached_filled : (after ys : List ℕ) → after ≡ map → length ys ≡ length (slice_range bytes start end) → P place part ys
          → Reached (put_mid start (end - start) bytes ys) after end g (j + 1)
      reached_filled after ys kept long holds =
          let size = end - start in
          let written = put_mid start size bytes ys in
          let fits : start ≤ length bytes = omega (arith, next.ends, next_inside) in
          let size_is : length ys ≡ size = omega (arith, long, next_length, next.ends) in
          let before = subst (λ a. EachBefore (put_mid a size bytes ys) g j) (sym r.here) (each_kept bytes g j size ys (omega (arith, r.here)) r.each) in
          record {
            here = next_start;
            long = length-put_mid start size bytes ys (omega (arith, next.ends, next_inside)) size_is ∙ r.long;
            walls = subst (ShowsWalls l.board) (sym kept) r.walls;
            each = each_more written g j before
                (holds_here written (subst (P place part) (sym (between-put_mid start size bytes ys end fits size_is)) holds));
          }

    -- all parts of a goal place are done
    pub reached_place : {bytes map : List ℕ} {start g j : ℕ} → part_count (count l) ≤ j → Reached bytes map start g j
        → Reached bytes map start (g + 1) 0
    reached_place {bytes} {map} {start} {g} {j} all r = record {
      here = r.here ∙ block_end_last g j all;
      long = r.long;
      walls = r.walls;
      each = each_place bytes g j all r.each;
    }
