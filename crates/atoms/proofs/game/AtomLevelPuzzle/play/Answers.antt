use Rattle.std.proofs.Common.{sym, arith}
use Rattle.atoms.specs.Level.{atoms}
use Rattle.atoms.specs.laws.Opening.{number_of_slide}
use Rattle.atoms.proofs.Sliding.{moves_exactly}
use Rattle.atoms.proofs.game.AtomLevelPuzzle.play.Goals as goal

pub returns-in-Ok-clause-plays : goal.returns-in-Ok-clause-plays
returns-in-Ok-clause-plays c =
    let named = sym c.in-Ok.ensures.named in
    rw (number_of_slide c.args.number c.in-Ok.direction named) at c.slide_atom.ensures

pub returns-in-Ok-clause-exactly : goal.returns-in-Ok-clause-exactly
returns-in-Ok-clause-exactly c =
    moves_exactly (atoms c.args.self.now) (omega (arith, c.args.self.now.counted)) _ _

pub returns-in-Err-clause-exactly : goal.returns-in-Err-clause-exactly
returns-in-Err-clause-exactly c =
    moves_exactly (atoms c.args.self.now) (omega (arith, c.args.self.now.counted)) _ _
