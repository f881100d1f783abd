-- How the engine's state stands for the master's machine (the crate bearer, Ledger.antt), and what the answers mean in
-- document 01's words. How its entries are read is said in ledger_entries (View.antt); a length that is none of document 01's counts as
-- 18, so that a struct of any content is a state.
-- Assumes nothing.
use Rattle.std.specs.Prelude.{true, ℕ, Result}
use Rattle.basics.specs.Basics.{Outcome, done, refused}
use Rattle.circle.specs.Lengths.{length_in}
use Rattle.bearer.specs.Bearer.{After}
use Rattle.bearer.specs.Ledger as machine
use Rattle.refusal.specs.declared.Refusal.{Refusal}
use Rattle.refusal.specs.Numbers.{answer_of}
use Rattle.ledger_entries.specs.View.{entries_of}
pub use Rattle.ledger_entries.specs.View.{fate_in, entry_in, entries_in}
use Rattle.ledger.specs.declared.Ledger as L
use Rattle.ledger.specs.declared.Accepted as A
use Rattle.ledger.specs.declared.Taken as T

-- ---- the state

-- the state: each word as it stands, L as its word is read, and the entries that the count says
abbrev pub ledger_in : L.Ledger → machine.Ledger Unit
ledger_in l = record {
  bits = length_in l.bits;
  next = l.next;
  highest = l.highest;
  sent = l.sent;
  closed = l.closed;
  desired = l.desired;
  minimum = l.minimum;
  octets = l.octets;
  oldest = l.oldest;
  entries = entries_of l.entries;
}

-- ---- what the answers mean

-- an open answers the fresh end
abbrev pub opened_as : Result L.Ledger Refusal → Outcome (machine.Ledger Unit)
opened_as r = answer_of ledger_in r

-- judging a send answers nothing but that nothing stands against it
abbrev pub judged_as : Result Unit Refusal → Outcome Unit
judged_as r = answer_of (λ u. u) r

-- a send answers the X2-U number given out
abbrev pub sent_as : Result ℕ Refusal → Outcome ℕ
sent_as r = answer_of (λ n. n) r

-- accepting a status answers how many were freed, how many became lost, and Final
abbrev pub accepted_as : Result A.Accepted Refusal → Outcome machine.Accepted
accepted_as r = answer_of (λ a. record { freed = a.freed; lost = a.lost; final = a.last }) r

-- a take answers the two numbers and the size of what was taken
abbrev pub taken_as : Result T.Taken Refusal → Outcome machine.Taken
taken_as r = answer_of (λ t. record { number = t.number; pdcp = t.pdcp; size = t.size }) r

-- an answer beside the state after the call
abbrev pub beside : {A : Type 0} → Outcome A → machine.Ledger Unit → After (machine.Ledger Unit) A
beside a l = record { answer = a; state = l }

-- ---- open, which has no state before it

-- the fresh end; beside a refusal stands one that is closed and empty
abbrev pub opens : Outcome (machine.Ledger Unit) → After (machine.Ledger Unit) Unit
opens (done l) = beside (done tt) l
opens (refused n) = beside (refused n) (machine.fresh 18 0 0 true)
