use Rattle.refusals.specs.declared.Fault.TheVariants.{NoRoom}
use Rattle.refusals.specs.Refusals.{refusal}
use Rattle.text.proofs.Pens.{length_or_error}
use Rattle.atoms.specs.Level.{atoms}
use Rattle.atoms.specs.LevelText.Writing.{level_text}
use Rattle.atoms.proofs.LevelText.RoundTrip.{reads_back}
use Rattle.atoms.proofs.level_text.writer.write_level.Goals as goal

pub returns : goal.returns
returns c = record {
  after = c.write_text.ensures.after;
  answers = length_or_error (refusal NoRoom 0) (level_text (atoms c.args.level.now)) c.args.out.now (rw c.at.ensures at c.ok_or.ensures.value) c.write_text.ensures.answers;
  reads = reads_back c.args.level.now;
}
