use Rattle.hash_index.proofs.Keys.{length_keys}
use Rattle.hash_index.proofs.Views.{length_index}
use Rattle.hash_index.proofs.Largest.{largest_below}
use Rattle.hash_index.proofs.index.HashIndex.last.Goals as goal

pub along-requires : goal.along-requires
along-requires c = rw (length_index c.self.inside c.args.self.now c.self.view_is, c.head-head.ensures)
    (largest_below _ _ _ (c.self.invariant.heads _ c.bucket_of.ensures.below))

pub returns : goal.returns
returns c = c.along.ensures _
    (rw (← c.self.view_is, c.head-head.ensures, ← c.bucket_of.ensures.named, length_keys) (c.self.invariant.heads _ c.bucket_of.ensures.below))
