use Rattle.pattern_databases.proofs.Bytes.{byte_there}
use Rattle.pattern_databases.proofs.block.Block.meets_at.Goals as goal

pub bounds-entries-number : goal.bounds-entries-number
bounds-entries-number c = byte_there c.requires.byte

pub bounds-entries-number-in-Meetings : goal.bounds-entries-number-in-Meetings
bounds-entries-number-in-Meetings c = byte_there c.requires.byte
