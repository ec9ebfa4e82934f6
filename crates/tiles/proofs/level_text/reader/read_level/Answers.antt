use Rattle.tiles.proofs.LevelText.RoundTrip.{reads_exactly}
use Rattle.tiles.proofs.level_text.reader.read_level.Goals as goal

pub returns-clause-exactly : goal.returns-clause-exactly
returns-clause-exactly c = reads_exactly _
