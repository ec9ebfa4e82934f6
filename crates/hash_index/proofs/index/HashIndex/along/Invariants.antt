use Rattle.std.proofs.Common.{ℕ, ◌<◌, MatchOption}
use Rattle.std.specs.Prelude.{⊤}
use Rattle.hash_index.specs.inside.Chains.{bucket_of, IsInBucket, IsLargest}
use Rattle.hash_index.proofs.Walking.{Ahead, left}
use Rattle.hash_index.proofs.index.HashIndex.along.Given as goal

abbrev pub invariant-loop-next : goal.invariant-loop-next
invariant-loop-next l = record {
  inside : MatchOption l.next ⊤ (λ place. place < l.self-inside.used);
  ahead : (n : ℕ) → IsLargest (IsInBucket l.self-inside.chains.numbers.now l.self-inside.capacity (bucket_of l.self-inside.capacity l.key)) n l.fn.from → Ahead l.self-inside.chains.numbers.now l.self-inside.capacity l.key n l.next;
}

abbrev pub decreases-loop-next : goal.decreases-loop-next
decreases-loop-next l = left l.next
