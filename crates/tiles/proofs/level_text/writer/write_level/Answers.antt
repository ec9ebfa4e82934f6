use Rattle.refusals.specs.declared.Fault.TheVariants.{NoRoom}
use Rattle.refusals.specs.Refusals.{refusal}
use Rattle.text.proofs.Pens.{length_or_error}
use Rattle.tiles.specs.Level.{tiles}
use Rattle.tiles.specs.LevelText.Writing.{level_text}
use Rattle.tiles.proofs.LevelText.RoundTrip.{reads_back}
use Rattle.tiles.proofs.level_text.writer.write_level.Goals as goal

pub returns : goal.returns
returns c = record {
  after = c.write_text.ensures.after;
  answers = length_or_error (refusal NoRoom 0) (level_text (tiles c.args.level.now)) c.args.out.now (rw c.at.ensures at c.ok_or.ensures.value) c.write_text.ensures.answers;
  reads = reads_back c.args.level.now;
}
