-- A key's bucket is one of the buckets. Assumes nothing.
use Rattle.std.proofs.Common.{ℕ, ◌*◌, ◌<◌, arith}
use Rattle.std.proofs.Math.Nat.{mul-lt-mul_of_pos_left}
use Rattle.std.proofs.lemmas.Nat.{div_below}
use Rattle.hash_index.specs.inside.Chains.{bucket_of}

pub bucket_below : (capacity key : ℕ) → 0 < capacity → key < 4294967296 → bucket_of capacity key < capacity
unfolding bucket_of
bucket_below capacity key some fits = div_below (capacity * key) 4294967296 capacity (omega arith) (mul-lt-mul_of_pos_left fits some)
