use Rattle.std.proofs.Common.{◌≡◌, sym, ap, subst, ◌∙◌, arith}
use Rattle.std.specs.Prelude.{is_ok}
use Rattle.search_theory.specs.Calls.{RecitesWay}
use Rattle.search_theory.specs.Promise.{Says}
use Rattle.answers.specs.Answers.{places}
use Rattle.answers.proofs.Telling.{written, tells_way, written_over}
use Rattle.answers.proofs.workspace.RefMutMemoryTableVisitorPLACES.visit.Goals as goal

pub unwrap-length-requires : goal.unwrap-length-requires
unwrap-length-requires g c =
    let m = g.L.Puzzle.meaning c.args.level.now in
    let k = g.L.Notation.spelling c.args.level.now in
    let lawful = g.met.L.Notation.readable c.args.level.now in
    let memory = c.args.self.now in
    let moves : c.deref.result.now ≡ c.solve.new.moves = c.deref.ensures.value ∙ written_over _ _ _ (omega (arith, c.solve.auto.moves, c.deref_mut-3.ensures.len)) in
    let way = subst (RecitesWay m c.in-Solved.count c.deref_mut-3.result.now) (sym moves) c.in-Solved.ensures.leaves in
    let room = c.deref_mut-in-Solved.ensures.len ∙ memory.roomy in
    ap is_ok (c.write_way.ensures.answers ∙ written m k lawful c.in-Solved.count c.deref_mut-3.result.now c.deref.result.now c.deref_mut-in-Solved.result.now c.in-Solved.ensures.means way room c.write_way.ensures.short)

pub returns-in-Solved : goal.returns-in-Solved
returns-in-Solved g c =
    let m = g.L.Puzzle.meaning c.args.level.now in
    let k = g.L.Notation.spelling c.args.level.now in
    let lawful = g.met.L.Notation.readable c.args.level.now in
    let memory = c.args.self.now in
    let moves : c.deref.result.now ≡ c.solve.new.moves = c.deref.ensures.value ∙ written_over _ _ _ (omega (arith, c.solve.auto.moves, c.deref_mut-3.ensures.len)) in
    let found = c.in-Solved.ensures in
    let way = subst (RecitesWay m c.in-Solved.count c.deref_mut-3.result.now) (sym moves) found.leaves in
    let room = c.deref_mut-in-Solved.ensures.len ∙ memory.roomy in
    let text : c.deref-in-Solved.result.now ≡ c.write_way.new.out = c.deref-in-Solved.ensures.value ∙ written_over _ _ _ (omega (arith, c.write_way.auto.out, c.deref_mut-in-Solved.ensures.len)) in
    record {
      last = found.last;
      ends = found.ends;
      only = found.only;
      tells = tells_way m k lawful c.in-Solved.count c.deref_mut-3.result.now c.deref.result.now c.deref_mut-in-Solved.result.now found.means way room c.write_way.ensures.short
          found.last.verdict c.unwrap-length.result c.deref-in-Solved.result.now found.verdict_is (sym c.write_way.ensures.answers ∙ c.unwrap-length.ensures) (text ∙ c.write_way.ensures.after);
      means = subst (Says m places) (sym found.verdict_is) found.means;
    }
