use Rattle.std.proofs.Common.{sym, refl, arith}
use Rattle.std.proofs.lemmas.Bool.{lt-ltb, le-ltb}
use Rattle.hash_index.proofs.Keys.{length_keys}
use Rattle.hash_index.proofs.Adding.{added_length, keys_added, heads_added, links_added}
use Rattle.hash_index.proofs.Views.{next_fits}
use Rattle.hash_index.proofs.index.HashIndex.push.Goals as goal

pub returns-then-place-self-clause-room : goal.returns-then-place-self-clause-room
returns-then-place-self-clause-room c = rw (← c.self.view_is, length_keys) (sym (le-ltb _ _ (omega arith)))

pub invariant_of-self : goal.invariant_of-self
invariant_of-self c =
    let adds = next_fits c.self.inside c.args.key c.self.invariant (omega arith) (omega arith) in
    record {
      few = omega arith;
      room = omega arith;
      long = rw (c.add.ensures, added_length _ _ _ _ adds) c.self.invariant.long;
      heads = rw c.add.ensures (heads_added _ _ _ c.args.key adds c.self.invariant.heads);
      links = rw c.add.ensures (links_added _ _ _ c.args.key adds c.self.invariant.heads c.self.invariant.links);
    }

pub returns-clause-room : goal.returns-clause-room
returns-clause-room c = rw (← c.self.view_is, length_keys) (sym (lt-ltb _ _ (omega arith)))

pub returns-clause-after : goal.returns-clause-after
returns-clause-after c =
    let adds = next_fits c.self.inside c.args.key c.self.invariant (omega arith) (omega arith) in
    rw (← c.self.view_is, c.add.ensures) (record {
      keys = keys_added _ _ _ c.args.key adds;
      capacity = refl;
      numbers = added_length _ _ _ c.args.key adds;
    })
