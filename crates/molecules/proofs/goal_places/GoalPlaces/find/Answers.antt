use Rattle.std.proofs.Common.{◌≡◌, [], ◌∷◌, ◌++◌, sym, ap, ◌∙◌, rules, arith}
use Rattle.pictures.specs.declared.picture.Picture.{Picture}
use Rattle.pictures.specs.Pictures.{shape}
use Rattle.molecules.specs.Molecules.{molecule_shape}
use Rattle.molecules.specs.GoalPlaces.{is_goal_place}
use Rattle.molecules.proofs.Passing.{passing_one, passing_none, lists_exactly}
use Rattle.molecules.proofs.Everywhere.{found_on_board, found_everywhere}
use Rattle.molecules.proofs.goal_places.GoalPlaces.find.Goals as goal
use Rattle.molecules.proofs.goal_places.GoalPlaces.find.Goals.{then-fits, else-fits}

pub loop-cell-preserved : goal.loop-cell-preserved
loop-cell-preserved c =
    let test = is_goal_place (shape c.args.board.now) (molecule_shape c.args.molecule.now) in
    let cell = c.loop-cell.cell in
    let fits : test cell ≡ c.fits.result =
    ap (λ (m : Picture). is_goal_place (shape c.args.board.now) (shape m) cell) (sym c.picture.ensures) ∙ sym c.fits.ensures in
    elim c.if-fits.branch [
      | then-fits w ↦
          let one = passing_one test cell (fits ∙ w.if-fits.true) in
          rw w.goal_places-is (record {
            found = w.push.ensures.pushed ∙ ap (λ l. l ++ (cell ∷ [])) c.loop-cell.invariant.found ∙ sym one;
            few = omega (arith, w.push.ensures.counted);
          })
      | else-fits w ↦
          let none = passing_none test cell (fits ∙ w.if-fits.false) in
          rw w.goal_places-is (record { found = c.loop-cell.invariant.found ∙ sym none; few = omega arith })
    ]

pub returns-clause-exactly : goal.returns-clause-exactly
returns-clause-exactly c = lists_exactly (shape c.args.board.now) (molecule_shape c.args.molecule.now)

pub returns-clause-on_board : goal.returns-clause-on_board
returns-clause-on_board c = found_on_board c.args.board.now (molecule_shape c.args.molecule.now) _ (search rules)

pub returns-clause-everywhere : goal.returns-clause-everywhere
returns-clause-everywhere c = found_everywhere c.args.board.now (molecule_shape c.args.molecule.now) _ (search rules)
