use Rattle.std.proofs.Common.{◌≡◌, ◌<◌, true, length, get_or, take, sym, ap, ◌∙◌, length-take, arith}
use Rattle.std.specs.List.{list_any}
use Rattle.std.proofs.lemmas.List.{length_push}
use Rattle.std.proofs.lemmas.Slice.Zip.{zip_turn, zip_end}
use Rattle.pictures.proofs.Shapes.{some_wide}
use Rattle.atoms.specs.Board.{labels_of}
use Rattle.atoms.specs.Level.{atoms, count, fits, finished}
use Rattle.atoms.proofs.Roll.{length_labels}
use Rattle.atoms.proofs.Fits.{fits_by, fits_more, fits_not, fits_all, none_more, some_here, none_all, finished_decides}
use Rattle.atoms.proofs.game.AtomLevelPuzzle.is_goal.Goals as goal
use Rattle.atoms.proofs.game.AtomLevelPuzzle.is_goal.Goals.{In-Some}

-- the atom of this turn is one of the level's: its cell and its label
turn : (c : In-Some) → (length c.loop-cell.yielded < count (atoms c.args.self.now)) × (c.in-Some.cell.now ≡ get_or (take (count (atoms c.args.self.now)) c.args.at.now.cells) (length c.loop-cell.yielded) 0) × (c.in-Some.label.now ≡ get_or (labels_of (atoms c.args.self.now).board) (length c.loop-cell.yielded) 0)
turn c =
    let l = atoms c.args.self.now in
    let p = c.args.at.now in
    let at = zip_turn (take (count l) p.cells) (labels_of l.board) c.loop-cell.yielded c.into_iter-cell-iterator.result c.loop-cell.cell-iterator c.next.new.self _ (cc) (cc) c.loop-cell.yielded_by _ c.in-Some.is c.next.ensures.steps in
    (omega (arith, at.0, length-take (count l) p.cells), at.2 0, at.3 0)

pub goal_places-preserved : goal.goal_places-preserved
goal_places-preserved c =
    let l = atoms c.args.self.now in
    let p = c.args.at.now in
    let (there, stands, labelled) = turn (goal.at.goal_places-preserved c).In-Some in
    let not = fits_by l p _ _ _ _ _ there stands labelled c.if-not-wants.ensures.says in
    (c.goal_places.invariant.0, none_more l p _ _ c.goal_places-test.true c.goal_places.invariant.1 (fits_not l p _ _ there not))

pub loop-cell-preserved : goal.loop-cell-preserved
loop-cell-preserved c =
    let l = atoms c.args.self.now in
    let p = c.args.at.now in
    let (there, stands, labelled) = turn (goal.at.loop-cell-preserved c).In-Some in
    let here = fits_by l p _ _ _ _ _ there stands labelled c.if-not-wants.ensures.says in
    rw length_push (fits_more l p _ _ c.loop-cell.invariant here)

pub returns-after-goal_places : goal.returns-after-goal_places
returns-after-goal_places c =
    let l = atoms c.args.self.now in
    let p = c.args.at.now in
    let none = none_all l p c.as_slice-goal_place-items.result.now c.goal_places.goal_place-index c.goal_places-test.false c.goal_places.invariant.1 in
    let says : c.goal_places.found ≡ finished l p = c.goal_places.invariant.0 ∙ sym none ∙ ap (list_any (fits l p)) (c.as_slice-goal_place-items.ensures ∙ c.args.self.now.placed) in
    record {
      says = says;
      decides = finished_decides l p (some_wide c.args.self.now.molecule.picture) _ says;
    }

pub returns-in-None : goal.returns-in-None
returns-in-None c =
    let l = atoms c.args.self.now in
    let p = c.args.at.now in
    let end = zip_end (take (count l) p.cells) (labels_of l.board) c.loop-cell.yielded c.into_iter-cell-iterator.result c.loop-cell.cell-iterator c.next.new.self _ (cc) (cc) c.loop-cell.yielded_by c.in-None.is c.next.ensures.steps in
    let all : count l ≡ length c.loop-cell.yielded = omega (arith, end, length-take (count l) p.cells, length_labels l.board, c.args.self.now.counted) in
    let some = some_here l p _ _ c.goal_places-test.true c.goal_places.invariant.1 (fits_all l p _ _ all c.loop-cell.invariant) in
    let says : true ≡ finished l p = sym some ∙ ap (list_any (fits l p)) (c.as_slice-goal_place-items.ensures ∙ c.args.self.now.placed) in
    record {
      says = says;
      decides = finished_decides l p (some_wide c.args.self.now.molecule.picture) _ says;
    }
