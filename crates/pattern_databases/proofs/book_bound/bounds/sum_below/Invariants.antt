use Rattle.std.proofs.Common.{◌*◌, ◌<◌, ◌≤◌, get_or}
use Rattle.pattern_databases.proofs.Summing.{Summed}
use Rattle.pattern_databases.proofs.book_bound.bounds.sum_below.Given as goal

abbrev pub invariant-loop-entry : goal.invariant-loop-entry
invariant-loop-entry l = record {
  summed : Summed (λ e. get_or l.bytes e 0) l.entries l.entry-index l.sum;
  few : l.sum ≤ 254 * l.entry-index;
  below : 0 < l.entry-index → l.sum < l.limit;
}
