use Rattle.std.proofs.Common.{suc, ◌*◌, ◌^◌, sym, ap, ◌∙◌, arith}
use Rattle.std.proofs.Math.Nat.{pow-suc}
use Rattle.atoms.specs.Level.{atoms}
use Rattle.pattern_databases.specs.Floor.{free_count}
use Rattle.pattern_databases.proofs.Sizes.{small_less}
use Rattle.pattern_databases.proofs.layout.Layout.placements.Goals as goal

pub overflow_mul-placements : goal.overflow_mul-placements
overflow_mul-placements c =
    let l = atoms c.args.self.now.level.now in
    let f = free_count l.board in
    let more = ap (λ k. k * c.args.self.now.count) c.loop.invariant ∙ ap (λ k. f ^ c.loop.counter * k) c.args.self.now.counted ∙ sym (pow-suc f c.loop.counter) in
    omega (arith, more, small_less l (suc c.loop.counter) c.args.size (omega arith) c.requires)
