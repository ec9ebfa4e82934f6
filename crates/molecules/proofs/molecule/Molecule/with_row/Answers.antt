use Rattle.std.proofs.Common.{sym, ◌∙◌}
use Rattle.molecules.specs.Molecules.{molecule_shape}
use Rattle.molecules.proofs.Walls.{unwalled_row}
use Rattle.molecules.proofs.molecule.Molecule.with_row.Goals as goal

pub invariant_of-result : goal.invariant_of-result
invariant_of-result c =
    let m = c.args.self.now in
    let none = sym c.draws_wall.ensures ∙ c.if-draws_wall.false in
    record { unwalled = unwalled_row (molecule_shape m) _ _ m.unwalled none c.in_ok-picture.ensures }
