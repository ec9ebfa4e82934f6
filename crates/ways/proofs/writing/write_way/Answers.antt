use Rattle.std.proofs.Common.{sym, ◌∙◌}
use Rattle.refusals.specs.declared.Fault.TheVariants.{NoRoom}
use Rattle.refusals.specs.Refusals.{refusal}
use Rattle.text.proofs.Pens.{length_or_error}
use Rattle.ways.specs.Writing.{way_text}
use Rattle.ways.proofs.WayTexts.{length_written, put_in_buffer}
use Rattle.ways.proofs.Solving.{writes_accepted}
use Rattle.ways.proofs.Lengths.{is_short}
use Rattle.ways.proofs.writing.write_way.Goals as goal

pub returns-in_err-check_moves-clause-accepted : goal.returns-in_err-check_moves-clause-accepted
returns-in_err-check_moves-clause-accepted g c =
    let z = c.args.level.now in
    writes_accepted (g.L.Puzzle.meaning z).game (g.L.Notation.spelling z) (g.met.L.Notation.readable z) c.args.moves.now

pub returns-in_err-check_moves-clause-short : goal.returns-in_err-check_moves-clause-short
returns-in_err-check_moves-clause-short g c =
    let z = c.args.level.now in
    is_short (g.L.Puzzle.meaning z).game (g.L.Notation.spelling z) (g.met.L.Notation.readable z) c.args.moves.now

pub returns : goal.returns
returns g c =
    let z = c.args.level.now in
    let game = (g.L.Puzzle.meaning z).game in
    let k = g.L.Notation.spelling z in
    let ms = c.args.moves.now in
    let out = c.args.out.now in
    let all = sym c.in_ok-check_moves.ensures in
    let few = c.if-moves-gt-MOST_MOVES.false in
    record {
      after = c.write_text.ensures.after ∙ put_in_buffer game k ms all few out;
      answers = length_written game k ms all few out (length_or_error (refusal NoRoom 0) (way_text game k ms) out (rw c.at-2.ensures at c.ok_or.ensures.value) c.write_text.ensures.answers);
      accepted = writes_accepted game k (g.met.L.Notation.readable z) ms;
      short = is_short game k (g.met.L.Notation.readable z) ms;
    }
