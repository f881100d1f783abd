-- What both ends of a bearer share: the limits of documents 01 and 02, and what a call leaves.
-- Assumes nothing.
use Rattle.std.specs.Prelude.{◌≡◌, false, ℕ, ◌*◌}
use Rattle.basics.specs.Basics.{Outcome, done, refused, is_done}

-- ---- the limits

-- an open number this far below an arrival is declared lost
abbrev pub window : ℕ
window = 256

-- the most runs that the secondary lists
abbrev pub most_runs : ℕ
most_runs = 256

-- the most records that the secondary holds
abbrev pub most_records : ℕ
most_records = 512

-- the most entries that the master holds
abbrev pub most_entries : ℕ
most_entries = 512

-- the most octets that a PDU has (document 02, Four)
abbrev pub most_size : ℕ
most_size = 16384

-- the most octets that the entries of a master can have together
abbrev pub most_octets : ℕ
most_octets = most_entries * most_size

-- ---- what a call leaves

-- a call's answer, and the state after it
pub record After (S A : Type 0) : Type 0 where
  pub answer : Outcome A
  pub state : S

-- a call that is refused leaves the state that was there
pub record Keeps {S A : Type 0} (s : S) (a : After S A) : Type 0 where
  pub same : is_done a.answer ≡ false → a.state ≡ s

-- a refusal answers its number, and leaves the state as it was
abbrev pub refusing : {S A : Type 0} → ℕ → S → After S A
refusing n s = record { answer = refused n; state = s }

-- an accepted call answers, and leaves another state
abbrev pub answering : {S A : Type 0} → A → S → After S A
answering a s = record { answer = done a; state = s }
