-- The numbers of the refusals (document 01, "Refusal numbers"), and what a call that may refuse answers.
-- Assumes nothing.
use Rattle.std.specs.Prelude.{ℕ, Result, Ok, Err}
use Rattle.basics.specs.Basics.{Outcome, done, refused}
use Rattle.refusal.specs.declared.Refusal.{Refusal}
use Rattle.refusal.specs.declared.Refusal.TheVariants.{Length, Reserved, FixedPart, Highest, Count, List, PdcpLength, Closed, Number, Late, Again, Span, Runs, Records, NoRecord, NoGap, Opposite, Mark, Room, FinalRuns, OtherType, HighestBits, NotWaiting, NoSuchHighest, PdcpOrder, Entries, Nothing, Size}

-- the number of each refusal
abbrev pub number_of : Refusal → ℕ
number_of Length = 1
number_of Reserved = 2
number_of FixedPart = 3
number_of Highest = 4
number_of Count = 5
number_of List = 6
number_of PdcpLength = 7
number_of Closed = 9
number_of Number = 10
number_of Late = 11
number_of Again = 12
number_of Span = 13
number_of Runs = 14
number_of Records = 15
number_of NoRecord = 16
number_of NoGap = 17
number_of Opposite = 18
number_of Mark = 19
number_of Room = 20
number_of FinalRuns = 22
number_of OtherType = 31
number_of HighestBits = 32
number_of NotWaiting = 33
number_of NoSuchHighest = 34
number_of PdcpOrder = 35
number_of Entries = 36
number_of Nothing = 38
number_of Size = 39

-- the document's answer that a result stands for: its value, as the document has it, or the number of the refusal
abbrev pub answer_of : {T A : Type 0} → (T → A) → Result T Refusal → Outcome A
answer_of f (Ok x) = done (f x)
answer_of f (Err r) = refused (number_of r)
