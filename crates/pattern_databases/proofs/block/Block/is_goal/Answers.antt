use Rattle.std.proofs.Common.{◌<◌, length, ap, rules, tests, arith}
use Rattle.std.proofs.lemmas.Iterator.{YieldsList-from_slice, YieldsList-from_zip}
use Rattle.std.proofs.lemmas.Iterator.Adapters.{serves_from_places}
use Rattle.std.proofs.lemmas.Iterator.Consumers.{YieldsList-at}
use Rattle.std.proofs.lemmas.Iterator.Search.{all_from_yields_List}
use Rattle.pictures.proofs.Shapes.{some_wide}
use Rattle.atoms.specs.Level.{atoms}
use Rattle.atoms.proofs.Roll.{length_labels}
use Rattle.pattern_databases.proofs.GoalEntries.{is_wanted, atom_met, goal_decides}
use Rattle.pattern_databases.proofs.block.Block.is_goal.Goals as goal

pub all-requires-clause-callable : goal.all-requires-clause-callable
all-requires-clause-callable c =
    let block = c.args.self.now in
    let l = atoms block.layout.now.level.now in
    let cells = YieldsList-at c.zip.ensures.first (YieldsList-from_slice c.args.cells.now c.iter.ensures.rest) in
    let part = YieldsList-from_slice {s = c.zip.result.b} block.part.now (cc) in
    serves_from_places (YieldsList-from_zip {s = c.zip.result} cells part) (λ x q r. search (rules, tests))
    (λ x k h is.
    let met = atom_met block.part.now c.args.cells.now c.requires.long k (x.0.now, x.1.now) h is in
    let there : x.1.now < length c.labels-labels.result.now =
    omega (arith, met, block.part_is.atoms k met.0, ap length c.labels-labels.ensures, length_labels l.board) in
    search rules)

pub returns-then-not-meet : goal.returns-then-not-meet
returns-then-not-meet c =
    let block = c.args.self.now in
    let l = atoms block.layout.now.level.now in
    let cells = YieldsList-at c.zip.ensures.first (YieldsList-from_slice c.args.cells.now c.iter.ensures.rest) in
    let part = YieldsList-from_slice {s = c.zip.result.b} block.part.now (cc) in
    goal_decides l block.goal_place block.part.now c.args.cells.now c.requires
    (some_wide block.layout.now.level.now.molecule.picture) (grind arith) c.all.result
    (all_from_yields_List (is_wanted l block.goal_place) c.all.new.self _ c.all.result c.all.ensures.ran
    (YieldsList-from_zip {s = c.zip.result} cells part) (λ x b q k. search (rules, tests)))
