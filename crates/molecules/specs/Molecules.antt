-- What a molecule shows. Assumes nothing.
use Rattle.pictures.specs.Pictures.{Shape, shape}
use Rattle.molecules.specs.declared.molecule.Molecule.{Molecule}

abbrev pub molecule_shape : Molecule → Shape
molecule_shape m = shape m.picture
