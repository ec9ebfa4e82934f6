use Rattle.atoms.proofs.LevelText.RoundTrip.{reads_exactly}
use Rattle.atoms.proofs.level_text.reader.read_level.Goals as goal

pub returns-clause-exactly : goal.returns-clause-exactly
returns-clause-exactly c = reads_exactly _
