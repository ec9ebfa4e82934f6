-- What the index of a struct says of its places. Assumes nothing.
use Rattle.std.proofs.Common.{◌≡◌, ℕ, ◌<◌, length, sym, ap, ◌∙◌}
use Rattle.hash_index.specs.Index.{Index}
use Rattle.hash_index.specs.inside.Chains.{index_of, IsIndex}
use Rattle.hash_index.specs.declared.index.HashIndex.TheInside.{Inside}
use Rattle.hash_index.proofs.Keys.{length_keys}
use Rattle.hash_index.proofs.Adding.{Adds}

module _ (inside : Inside) where
  -- each place in use has a key
  pub length_index : (index : Index) → index_of inside ≡ index → length index.keys ≡ inside.used
  length_index index is = ap (λ (i : Index). length i.keys) (sym is) ∙ length_keys inside.chains.numbers.now inside.used

  -- where not all places are in use the next can be
  pub next_fits : (key : ℕ) → IsIndex inside → inside.used < inside.capacity → key < 4294967296 → Adds inside.chains.numbers.now inside.capacity inside.used key
  next_fits key index room fits = record { few = index.few; room = room; long = index.long; fits = fits }
