use Rattle.std.proofs.Common.{◌≡◌, Bool, true, false, List, ℕ, Decides, sym, subst}
use Rattle.std.proofs.lemmas.Bool.{both_ways}
use Rattle.std.proofs.lemmas.Result.{err_from_is_err_and}
use Rattle.atoms.specs.declared.level.AtomLevel.{AtomLevel}
use Rattle.atoms.specs.Level.{atoms}
use Rattle.pattern_databases.specs.Books.{HasLength, Fails}
use Rattle.pattern_databases.specs.Books.Fails.{length_fails, goals_fail, meetings_fail, moves_fail}
use Rattle.pattern_databases.specs.inside.Blocks.{MeetsAll}
use Rattle.pattern_databases.specs.declared.condition.Condition.{Condition}
use Rattle.pattern_databases.specs.declared.condition.Condition.TheVariants.{Goals, Meetings, Moves}
use Rattle.pattern_databases.proofs.book.Book.test.Goals as goal

-- what a call says of the layout's level, it says of the same one
module _ {one level : AtomLevel} (same : one ≡ level) {result : Bool} (bytes : List ℕ) (condition : Condition)
    (decides : Decides result (MeetsAll (atoms one) bytes condition)) where
  met : result ≡ true → MeetsAll (atoms level) bytes condition
  met passed = subst (λ l. MeetsAll (atoms l) bytes condition) same (decides.0 passed)

  unmet : result ≡ false → MeetsAll (atoms level) bytes condition → ⊥
  unmet failed all = both_ways result failed (decides.1 (subst (λ l. MeetsAll (atoms l) bytes condition) (sym same) all))

pub returns-in_err-layout-clause-refused : goal.returns-in_err-layout-clause-refused
returns-in_err-layout-clause-refused c =
    let why = c.in_err-layout.ensures.refused in
    let given = err_from_is_err_and c.from_residual.result c.from_residual.ensures.1 in
    rw (given.1, given.2) (subst (Fails (atoms c.args.level.now) c.args.bytes.now) (sym why.0) (length_fails why.1))

pub returns-then-not-meets-clause-refused : goal.returns-then-not-meets-clause-refused
returns-then-not-meets-clause-refused c =
    let layout = c.in_ok-layout.ensures.long in
    goals_fail layout.1 (unmet layout.0 c.args.bytes.now Goals c.meets.ensures.decides c.if-not-meets.true)

pub returns-then-not-meets-2-clause-refused : goal.returns-then-not-meets-2-clause-refused
returns-then-not-meets-2-clause-refused c =
    let layout = c.in_ok-layout.ensures.long in
    meetings_fail layout.1
    (met layout.0 c.args.bytes.now Goals c.meets.ensures.decides c.if-not-meets.false)
    (unmet layout.0 c.args.bytes.now Meetings c.meets-2.ensures.decides c.if-not-meets-2.true)

pub returns-then-not-meets-3-clause-refused : goal.returns-then-not-meets-3-clause-refused
returns-then-not-meets-3-clause-refused c =
    let layout = c.in_ok-layout.ensures.long in
    moves_fail layout.1
    (met layout.0 c.args.bytes.now Goals c.meets.ensures.decides c.if-not-meets.false)
    (met layout.0 c.args.bytes.now Meetings c.meets-2.ensures.decides c.if-not-meets-2.false)
    (unmet layout.0 c.args.bytes.now Moves c.meets-3.ensures.decides c.if-not-meets-3.true)

pub invariant_of-result : goal.invariant_of-result
invariant_of-result c =
    let layout = c.in_ok-layout.ensures.long in
    record {
      passes = record {
        long = subst (λ l. HasLength (atoms l) c.args.bytes.now) (sym layout.0) layout.1;
        goals = c.meets.ensures.decides.0 c.if-not-meets.false;
        meetings = c.meets-2.ensures.decides.0 c.if-not-meets-2.false;
        moves = c.meets-3.ensures.decides.0 c.if-not-meets-3.false;
      };
    }
