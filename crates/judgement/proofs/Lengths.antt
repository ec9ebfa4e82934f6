-- How long a report is at most. Assumes nothing.
use Rattle.std.proofs.Common.{◌≡◌, ℕ, ◌^◌, ◌<◌, ◌≤◌, List, length, Some, Ok, Err, decimal, Option, Result, ◌∙◌, arith}
use Rattle.std.specs.Prelude.{nat_le}
use Rattle.std.proofs.lemmas.Bool.{cond-true, le-leb}
use Rattle.std.proofs.lemmas.Fmt.{length-decimal-le}
use Rattle.std.proofs.lemmas.List.{length-append}
use Rattle.refusals.specs.declared.Fault.{Fault}
use Rattle.refusals.specs.declared.Refusal.{Refusal}
use Rattle.refusals.specs.declared.Fault.TheVariants.{NotText, LineForm, BoardSize, BadRow, BadWant, BareEdge, AtomLabels, TileNumbers, NoRoom, BookLength, BookGoal, BookMeeting, BookMove, TableSize, ListSize, AlreadyOpen, NotOpen, NoBudget, NotSolved, ShortList, WayForm, NothingThere, ClosedMove, AfterFinish, NotFinished}
use Rattle.refusals.specs.Refusals.{number_of, refusal_line}
use Rattle.text.specs.Pens.{length_if_fits}
use Rattle.judgement.specs.Judgement.{report_text}

two_digits : (f : Fault) → number_of f < 100
two_digits NotText = omega arith
two_digits LineForm = omega arith
two_digits BoardSize = omega arith
two_digits BadRow = omega arith
two_digits BadWant = omega arith
two_digits BareEdge = omega arith
two_digits AtomLabels = omega arith
two_digits TileNumbers = omega arith
two_digits NoRoom = omega arith
two_digits BookLength = omega arith
two_digits BookGoal = omega arith
two_digits BookMeeting = omega arith
two_digits BookMove = omega arith
two_digits TableSize = omega arith
two_digits ListSize = omega arith
two_digits AlreadyOpen = omega arith
two_digits NotOpen = omega arith
two_digits NoBudget = omega arith
two_digits NotSolved = omega arith
two_digits ShortList = omega arith
two_digits WayForm = omega arith
two_digits NothingThere = omega arith
two_digits ClosedMove = omega arith
two_digits AfterFinish = omega arith
two_digits NotFinished = omega arith

-- the line of a refusal that names a line
pub short_refusal : (e : Refusal) → e.line < 2 ^ 64 → length (refusal_line e) ≤ 32
short_refusal e small =
    let number : length (decimal (number_of e.fault)) ≤ 2 = length-decimal-le 2 (number_of e.fault) (omega arith) (omega (arith, two_digits e.fault)) (omega (arith, two_digits e.fault)) in
    let line : length (decimal e.line) ≤ 20 = length-decimal-le 20 e.line (omega arith) (omega arith) small in
    simp length-append (omega arith)

-- a judgement as the code holds it, in 32 and 64 bits
abbrev pub InBits : Result ℕ Refusal → Type 0
InBits (Ok n) = n < 2 ^ 32
InBits (Err e) = e.line < 2 ^ 64

pub short_report : (r : Result ℕ Refusal) → InBits r → length (report_text r) ≤ 32
short_report (Ok n) small =
    let digits : length (decimal n) ≤ 10 = length-decimal-le 10 n (omega arith) (omega arith) (omega arith) in
    simp length-append (omega arith)
short_report (Err e) small = short_refusal e small

-- a text that fits is written
pub written_if_short : (o : Option ℕ) (text out : List ℕ) → o ≡ length_if_fits text out → length text ≤ length out → o ≡ Some (length text)
written_if_short o text out is short = is ∙ cond-true (nat_le (length text) (length out)) _ _ (le-leb _ _ short)
