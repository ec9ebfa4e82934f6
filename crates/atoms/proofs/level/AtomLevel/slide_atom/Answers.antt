use Rattle.std.proofs.Common.{◌≡◌, ◌<◌, get_or, sym, refl, ◌∙◌, arith}
use Rattle.molecules.proofs.Counts.{cell_small}
use Rattle.slides.proofs.Resting.{rest_on_free}
use Rattle.atoms.specs.Level.{atoms, count}
use Rattle.atoms.proofs.Sliding.{played_open, played_closed, stands_on, rest_by, slide_closed, slide_open, destination_of_slide}
use Rattle.atoms.proofs.level.AtomLevel.slide_atom.Goals as goal
use Rattle.atoms.proofs.level.AtomLevel.slide_atom.Goals.{In-Some}

-- the atom is one of the level's, and this is its cell
stands : (c : In-Some) → (c.args.atom < count (atoms c.args.self.now)) × (c.in-Some.cell.now ≡ get_or c.args.from.now.cells c.args.atom 0)
stands c =
    let at = c.in-Some.ensures.lookup.3 in
    stands_on (atoms c.args.self.now) c.args.from.now _ _ _ c.standing.ensures at.0 (at.1 0)

pub returns-then-rest-cell : goal.returns-then-rest-cell
returns-then-rest-cell c blocked =
    let l = atoms c.args.self.now in
    let p = c.args.from.now in
    let on = stands (goal.at.returns-then-rest-cell c).In-Some in
    let cell = c.from-cell.ensures ∙ on.1 in
    let rests = rest_by l p _ _ c.args.atom c.args.direction _ _ c.grid.ensures blocked cell c.slide-rest.ensures.rests in
    played_closed _ _
    (destination_of_slide l p c.args.atom c.args.direction on.0 ∙ slide_closed l p c.args.atom c.args.direction (rests ∙ c.if-rest-cell.true ∙ cell))

pub overflow_cast-into : goal.overflow_cast-into
overflow_cast-into c =
    let free = rest_on_free _ _ _ _ _ _ (sym c.slide-rest.ensures.rests) c.if-rest-cell.false in
    let small = cell_small c.args.self.now.board _ _ _ c.grid.ensures refl free.0 in
    omega (arith, small)

pub returns : goal.returns
returns c blocked =
    let l = atoms c.args.self.now in
    let p = c.args.from.now in
    let on = stands (goal.at.returns c).In-Some in
    let cell = c.from-cell.ensures ∙ on.1 in
    let rests = rest_by l p _ _ c.args.atom c.args.direction _ _ c.grid.ensures blocked cell c.slide-rest.ensures.rests in
    played_open _ _ _
    (destination_of_slide l p c.args.atom c.args.direction on.0
    ∙ slide_open l p c.args.atom c.args.direction _ rests (λ back. c.if-rest-cell.false (back ∙ sym cell)))
