use Rattle.std.proofs.Common.{refl, arith}
use Rattle.pattern_databases.proofs.Locating.{numbered_none, numbered_fits, numbered_more}
use Rattle.pattern_databases.proofs.layout.Layout.number_at.Goals as goal

pub loop-atom-init : goal.loop-atom-init
loop-atom-init c = numbered_none c.args.self.now c.args.at.now c.args.part.now

pub overflow_mul-number : goal.overflow_mul-number
overflow_mul-number c =
    let fits = numbered_fits c.args.self.now c.args.at.now c.args.part.now c.loop-atom.atom-index c.loop-atom.number
    c.from.result _ _ c.loop-atom.invariant c.loop-atom-test.true c.from.ensures refl refl c.requires.small in
    omega arith

pub overflow_add-number : goal.overflow_add-number
overflow_add-number c =
    let fits = numbered_fits c.args.self.now c.args.at.now c.args.part.now c.loop-atom.atom-index c.loop-atom.number
    c.from.result c.from-in-loop-atom.result c.from-in-loop-atom-2.result c.loop-atom.invariant c.loop-atom-test.true
    c.from.ensures c.from-in-loop-atom.ensures c.from-in-loop-atom-2.ensures c.requires.small in
    omega arith

pub loop-atom-preserved : goal.loop-atom-preserved
loop-atom-preserved c =
    numbered_more c.args.self.now c.args.at.now c.args.part.now c.loop-atom.atom-index c.loop-atom.number
    c.from.result c.from-in-loop-atom.result c.from-in-loop-atom-2.result c.loop-atom.invariant c.loop-atom-test.true
    c.from.ensures c.from-in-loop-atom.ensures c.from-in-loop-atom-2.ensures
