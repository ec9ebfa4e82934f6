-- Verdicts that `==` calls equal are the same. Assumes nothing.
use Rattle.std.specs.Prelude.{◌≡◌, IsTrue}
use Rattle.std.proofs.Common.{refl, rules}
use Rattle.std.proofs.lemmas.Bool.{false≢true}
use Rattle.search_theory.specs.declared.Verdict.{Verdict}
use Rattle.search_theory.specs.declared.Verdict.TheVariants.{Running, Solved, Unsolvable, TableFull}
use Rattle.search_theory.specs.contracts.VerdictPartialEq.TheImpl

pub same_verdicts : (one other : Verdict) → IsTrue (TheImpl.ghosts.eq one other) → one ≡ other
same_verdicts Running Running e = refl
same_verdicts (Solved n) (Solved m) e = search rules
same_verdicts Unsolvable Unsolvable e = refl
same_verdicts TableFull TableFull e = refl
same_verdicts _ _ e = absurd (false≢true e)
