use Rattle.std.proofs.Common.{sym, subst}
use Rattle.atoms.specs.Level.{atoms}
use Rattle.pattern_databases.specs.inside.Blocks.{IsPart}
use Rattle.pattern_databases.proofs.Layouts.{is_part}
use Rattle.pattern_databases.proofs.block.Block.new.Goals as goal

pub invariant_of-result : goal.invariant_of-result
invariant_of-result c = record {
  part_is = subst (IsPart (atoms c.args.layout.now.level.now)) (sym c.part.ensures) (is_part c.args.layout.now c.args.number c.requires.there);
  beside = c.requires.beside;
}
