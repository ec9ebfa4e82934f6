use Rattle.open_list.proofs.Writes.{put_done}
use Rattle.open_list.proofs.heap.layout.put.Goals as goal

pub returns : goal.returns
returns c = put_done _ _ _ _ c.requires.room c.requires.slot c.requires.place
