use Rattle.std.proofs.Common.{◌≡◌, ◌<◌, ◌≤◌, length, slice_get, Some, refl, arith}
use Rattle.std.proofs.lemmas.Option.{slice_get_past}
use Rattle.hash_index.proofs.Keys.{key_there}
use Rattle.hash_index.proofs.Views.{length_index}
use Rattle.hash_index.proofs.Largest.{largest_below, below_more}
use Rattle.hash_index.proofs.index.HashIndex.earlier.Goals as goal

pub returns-then-place-self : goal.returns-then-place-self
returns-then-place-self c =
    let past : length c.args.self.now.keys ≤ c.args.place = omega (arith, length_index c.self.inside c.args.self.now c.self.view_is) in
    rw (slice_get_past c.args.self.now.keys c.args.place past) refl

pub along-requires : goal.along-requires
along-requires c =
    let inside : c.args.place < c.self.inside.used = omega arith in
    rw (length_index c.self.inside c.args.self.now c.self.view_is, c.link.ensures) (below_more _ c.args.place _ (omega arith) (largest_below _ _ _ (c.self.invariant.links c.args.place inside)))

pub returns : goal.returns
returns c =
    let inside : c.args.place < c.self.inside.used = omega arith in
    let there : slice_get c.args.self.now.keys c.args.place ≡ Some c.key.result = rw (← c.self.view_is, c.key.ensures) (key_there _ _ _ inside) in
    rw there (c.along.ensures c.args.place (rw (← c.self.view_is, c.link.ensures, c.key.ensures) (c.self.invariant.links c.args.place inside)))
