use Rattle.std.proofs.Common.{ap, ◌∙◌, length}
use Rattle.pictures.specs.Pictures.{shape}
use Rattle.atoms.proofs.Roll.{length_labels}
use Rattle.pattern_databases.proofs.parts.Parts.new.Goals as goal

pub returns : goal.returns
returns c = ap length c.labels.ensures ∙ length_labels (shape c.args.level.now.board)
