use Rattle.pattern_databases.proofs.Locating.{Numbered}
use Rattle.pattern_databases.proofs.layout.Layout.number_at.Given as goal

abbrev pub invariant-loop-atom : goal.invariant-loop-atom
invariant-loop-atom l = Numbered l.self l.at l.part l.atom-index l.number
