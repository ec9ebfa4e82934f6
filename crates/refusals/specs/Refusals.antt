-- The number of each refusal, and how a refusal is written. Assumes nothing.
use Rattle.std.specs.Prelude.{◌≡◌, ℕ, cond, List, [], ◌∷◌, ◌++◌, codes, decimal, ◌==◌}
use Rattle.refusals.specs.declared.Fault.{Fault}
use Rattle.refusals.specs.declared.Fault.TheVariants.{NotText, LineForm, BoardSize, BadRow, BadWant, BareEdge, AtomLabels, TileNumbers, NoRoom, BookLength, BookGoal, BookMeeting, BookMove, TableSize, ListSize, AlreadyOpen, NotOpen, NoBudget, NotSolved, ShortList, WayForm, NothingThere, ClosedMove, AfterFinish, NotFinished}
use Rattle.refusals.specs.declared.Refusal.{Refusal}

-- the one place that gives each reason its number
abbrev pub number_of : Fault → ℕ
number_of NotText = 11
number_of LineForm = 12
number_of BoardSize = 13
number_of BadRow = 14
number_of BadWant = 15
number_of BareEdge = 16
number_of AtomLabels = 17
number_of TileNumbers = 18
number_of NoRoom = 21
number_of BookLength = 22
number_of BookGoal = 23
number_of BookMeeting = 24
number_of BookMove = 25
number_of TableSize = 31
number_of ListSize = 32
number_of AlreadyOpen = 33
number_of NotOpen = 34
number_of NoBudget = 35
number_of NotSolved = 36
number_of ShortList = 37
number_of WayForm = 41
number_of NothingThere = 42
number_of ClosedMove = 43
number_of AfterFinish = 44
number_of NotFinished = 45

abbrev pub faults : List Fault
faults =
    NotText ∷ LineForm ∷ BoardSize ∷ BadRow ∷ BadWant ∷ BareEdge ∷ AtomLabels ∷ TileNumbers ∷ NoRoom ∷ BookLength ∷ BookGoal ∷
    BookMeeting ∷ BookMove ∷ TableSize ∷ ListSize ∷ AlreadyOpen ∷ NotOpen ∷ NoBudget ∷ NotSolved ∷ ShortList ∷ WayForm ∷ NothingThere ∷ ClosedMove ∷
    AfterFinish ∷ NotFinished ∷ []

-- the reason of a number, of those that have one
abbrev pub fault_in : List Fault → ℕ → Fault
fault_in [] number = NotText
fault_in (f ∷ fs) number = cond (number == number_of f) f (fault_in fs number)

abbrev pub fault : ℕ → Fault
fault number = fault_in faults number

-- a refusal that names a line
abbrev pub refusal : Fault → ℕ → Refusal
refusal f line = record { fault = f; line = line }

-- the same by the number of the reason
abbrev pub refused : ℕ → ℕ → Refusal
refused number line = refusal (fault number) line

-- a reason is told by its number, and by no other
pub record Numbered (f : Fault) (number : ℕ) : Type 0 where
  pub number_is : number ≡ number_of f
  pub alone : fault number ≡ f

-- `(fault NUMBER LINE)`
abbrev pub refusal_text : Refusal → List ℕ
refusal_text r = codes "(fault " ++ (decimal (number_of r.fault) ++ (codes " " ++ (decimal r.line ++ codes ")")))

-- the line that reports it
abbrev pub refusal_line : Refusal → List ℕ
refusal_line r = refusal_text r ++ codes "\n"
