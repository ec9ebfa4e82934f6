-- The chains of a hash index: how they lie in its numbers, and the index that they make. Assumes nothing.
use Rattle.std.specs.Prelude.{◌≡◌, ℕ, zero, suc, ◌+◌, ◌*◌, ◌/◌, ◌<◌, ◌≤◌, ◌==◌, cond, List, [], ◌∷◌, ◌++◌, length, slice_index, slice_set, Some, None, Option}
use Rattle.hash_index.specs.Index.{Index, IsLast}
use Rattle.hash_index.specs.declared.index.HashIndex.TheInside.{Inside}

-- the most places that an index has
abbrev pub most_places : ℕ
most_places = 1048576

-- the largest number of 32 bits, which stands where there is no place
abbrev pub no_place : ℕ
no_place = 4294967295

-- the place that a number names
abbrev pub place_of : ℕ → Option ℕ
place_of number = cond (number == no_place) None (Some number)

-- the key of a place
abbrev pub key_of : List ℕ → ℕ → ℕ
key_of numbers place = slice_index numbers (2 * place)

-- the place before it in its bucket
abbrev pub link_of : List ℕ → ℕ → Option ℕ
link_of numbers place = place_of (slice_index numbers (2 * place + 1))

-- the last place of a bucket
abbrev pub head_of : List ℕ → ℕ → ℕ → Option ℕ
head_of numbers capacity bucket = place_of (slice_index numbers (2 * capacity + bucket))

-- the keys of the first n places
abbrev pub keys_of : List ℕ → ℕ → List ℕ
keys_of numbers zero = []
keys_of numbers (suc n) = keys_of numbers n ++ (key_of numbers n ∷ [])

-- the bucket of a key, which is scaled from 32 bits to so many buckets
unfoldable pub bucket_of : ℕ → ℕ → ℕ
bucket_of capacity key = capacity * key / 4294967296

-- the numbers with a place more: the new head of the bucket of its key, linked to the one that was
abbrev pub with_place : List ℕ → ℕ → ℕ → ℕ → List ℕ
with_place numbers capacity place key = slice_set (slice_set (slice_set numbers (2 * place) key) (2 * place + 1) (slice_index numbers (2 * capacity + bucket_of capacity key))) (2 * capacity + bucket_of capacity key) place

-- the largest number below n of which Q holds, if there is one
abbrev pub IsLargest : (ℕ → Type 0) → ℕ → Option ℕ → Type 0
IsLargest Q n (Some place) = (place < n) × Q place × ((j : ℕ) → place < j → j < n → Q j → ⊥)
IsLargest Q n None = (j : ℕ) → j < n → Q j → ⊥

abbrev pub IsInBucket : List ℕ → ℕ → ℕ → ℕ → Type 0
IsInBucket numbers capacity bucket place = bucket_of capacity (key_of numbers place) ≡ bucket

-- each head is the last of the first n places that is in its bucket
abbrev pub HeadsAreLast : List ℕ → ℕ → ℕ → Type 0
HeadsAreLast numbers capacity n = (bucket : ℕ) → bucket < capacity → IsLargest (IsInBucket numbers capacity bucket) n (head_of numbers capacity bucket)

-- each of the first n places is linked to the last place before it that is in its bucket
abbrev pub LinksAreEarlier : List ℕ → ℕ → ℕ → Type 0
LinksAreEarlier numbers capacity n = (place : ℕ) → place < n → IsLargest (IsInBucket numbers capacity (bucket_of capacity (key_of numbers place))) place (link_of numbers place)

-- A walk along a chain finds the last place with a key, of the places before n: the chain begins at the last of these that
-- is in the key's bucket.
abbrev pub FindsLast : Index → ℕ → Option ℕ → Option ℕ → Type 0
FindsLast index key from found =
    (n : ℕ) → IsLargest (IsInBucket index.numbers index.capacity (bucket_of index.capacity key)) n from → IsLast index.keys n key found

-- the fields are those of an index
pub record IsIndex (h : Inside) : Type 0 where
  pub few : h.capacity ≤ most_places
  pub room : h.used ≤ h.capacity
  pub long : 3 * h.capacity ≤ length h.chains.numbers.now
  pub heads : HeadsAreLast h.chains.numbers.now h.capacity h.used
  pub links : LinksAreEarlier h.chains.numbers.now h.capacity h.used

abbrev pub index_of : Inside → Index
index_of h = record { numbers = h.chains.numbers.now; capacity = h.capacity; keys = keys_of h.chains.numbers.now h.used }
