-- The atoms of a part. Assumes nothing.
use Rattle.std.proofs.Common.{◌≡◌, ℕ, ◌+◌, ◌-◌, ◌*◌, ◌<◌, ◌≤◌, List, length, get_or, take, drop, min, sym, ap, ◌∙◌, zero-add, arith}
use Rattle.std.specs.List.{range_with_len}
use Rattle.std.proofs.lemmas.List.{ext_get_or, length-take, length-drop, get_or-take, get_or-drop, length-map, get_or-map}
use Rattle.std.proofs.lemmas.List.FromFn.{length-range_with_len, get_or-range_with_len}
use Rattle.pattern_databases.specs.Parts.{part_of, part_count, parts_of}

-- a stretch of a list that has each number at its own place
pub counted_stretch : (xs : List ℕ) (a n m : ℕ) → length xs ≡ m → ((k : ℕ) → k < m → get_or xs k 0 ≡ k) → a + n ≤ m
    → take n (drop a xs) ≡ range_with_len a n
counted_stretch xs a n m long each fits =
    let size : length (take n (drop a xs)) ≡ n = omega (arith, length-take n (drop a xs), length-drop a xs) in
    ext_get_or 0 (take n (drop a xs)) (range_with_len a n) (size ∙ sym (length-range_with_len a n))
    (λ i h.
    let inside : i < n = omega arith in
    get_or-take n (drop a xs) i 0 inside ∙ get_or-drop a xs i 0 ∙ each (a + i) (omega arith) ∙ sym (get_or-range_with_len a n i 0 inside))

-- parts are as many as counted, and each is that of its number
pub length_parts : (n : ℕ) → length (parts_of n) ≡ part_count n
length_parts n = length-map (range_with_len 0 (part_count n)) (part_of n) ∙ length-range_with_len 0 (part_count n)

pub length_part : (n j : ℕ) → length (part_of n j) ≡ min 2 (n - j * 2)
length_part n j = length-range_with_len (j * 2) (min 2 (n - j * 2))

-- a part by its number
pub part_at : (n j : ℕ) (d : List ℕ) → j < part_count n → get_or (parts_of n) j d ≡ part_of n j
part_at n j d h =
    let m = part_count n in
    get_or-map (part_of n) (range_with_len 0 m) j 0 d (omega (arith, length-range_with_len 0 m))
    ∙ ap (part_of n) (get_or-range_with_len 0 m j 0 h ∙ zero-add j)
