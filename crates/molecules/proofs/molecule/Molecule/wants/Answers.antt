use Rattle.pictures.specs.Pictures.{shape}
use Rattle.pictures.proofs.Shapes.{some_wide}
use Rattle.molecules.specs.Molecules.{molecule_shape}
use Rattle.molecules.proofs.Overlays.{wants_exactly}
use Rattle.molecules.proofs.molecule.Molecule.wants.Goals as goal

pub returns-clause-exactly : goal.returns-clause-exactly
returns-clause-exactly c =
    wants_exactly (shape c.args.board.now) (molecule_shape c.args.self.now) _ _ _ (some_wide c.args.self.now.picture)
