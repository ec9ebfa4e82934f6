use Rattle.text.specs.Lines.{split}
use Rattle.text.specs.Reading.{parts, ReadsLines}
use Rattle.text.proofs.reader.read_lines.Given as goal

-- what may be made of the lines that are left may be made of all
abbrev pub invariant-loop-number : goal.invariant-loop-number
invariant-loop-number g l =
    (goal.iterator-loop-number g).can_next l.lines ×
    (goal.iterator-loop-number g).is_finite l.lines ×
    ((r : _) → ReadsLines g.R.LineReader.Takes l.reader l.lines.number (parts l.lines) r → ReadsLines g.R.LineReader.Takes l.fn.start 1 (split l.text) r)
