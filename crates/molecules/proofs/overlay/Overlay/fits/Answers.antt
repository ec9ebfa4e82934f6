use Rattle.std.proofs.Common.{◌≡◌, ℕ, ◌<◌, length, ap, ◌∙◌, zero-add, rules, tests, arith}
use Rattle.std.proofs.lemmas.List.FromFn.{length-enumerate_from, get_or-enumerate_from}
use Rattle.std.proofs.lemmas.Iterator.{YieldsList-from_slice}
use Rattle.std.proofs.lemmas.Iterator.Adapters.{serves_from_places}
use Rattle.std.proofs.lemmas.Iterator.Consumers.{YieldsList-at, YieldsList-from_enumerate}
use Rattle.std.proofs.lemmas.Iterator.Search.{all_from_yields_List}
use Rattle.pictures.specs.declared.cell.Cell.{Cell}
use Rattle.pictures.specs.Pictures.{shape}
use Rattle.molecules.proofs.Counts.{cells_few}
use Rattle.molecules.proofs.Fitting.{lies_numbered, is_goal_place_numbered}
use Rattle.molecules.proofs.overlay.Overlay.fits.Goals as goal

pub all-requires-clause-callable : goal.all-requires-clause-callable
all-requires-clause-callable c =
    let m = shape c.args.self.now.molecule.now in
    serves_from_places
    (YieldsList-from_enumerate (YieldsList-at c.enumerate.ensures.source (YieldsList-from_slice m.cells (c.iter.ensures.rest ∙ c.cells.ensures))) c.enumerate.ensures.count)
    (λ x q r. search (rules, tests))
    (λ x k h e.
    let here : k < length m.cells = omega (arith, h, length-enumerate_from 0 m.cells) in
    let at : x.0 ≡ k = ap (λ (q : ℕ × Cell). q.0) (e ∙ get_or-enumerate_from 0 m.cells k _ here) ∙ zero-add k in
    let few : x.0 < 256 = omega (arith, cells_few c.args.self.now.molecule.now) in
    λ κs p g xs q r s a b d l. few)

pub returns : goal.returns
returns c =
    let b = shape c.args.self.now.board.now in
    let m = shape c.args.self.now.molecule.now in
    let goal_place = c.args.self.now.goal_place in
    all_from_yields_List (lies_numbered b m goal_place) _ _ _ c.all.ensures.ran
    (YieldsList-from_enumerate (YieldsList-at c.enumerate.ensures.source (YieldsList-from_slice m.cells (c.iter.ensures.rest ∙ c.cells.ensures))) c.enumerate.ensures.count)
    (λ x r q k. search (rules, tests))
    ∙ is_goal_place_numbered b m goal_place
