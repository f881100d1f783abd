-- How long a call's line can be, and so how much of a line is enough to read it.
-- Assumes nothing.
use Rattle.std.specs.Prelude.{◌≡◌, List, ◌++◌, ℕ, suc, ◌<◌, length, take, replicate, Some, None}
use Prim.Native.Char.{code}
use Rattle.lister_text.specs.Texts.{ascii}
use Rattle.lister_text.specs.Hexadecimal.{most_digits}
use Rattle.replay_calls.specs.declared.Call.TheVariants.{Ledger}
use Rattle.replay_calls.specs.declared.LedgerCall.TheVariants.{Accept}
use Rattle.replay_calls.specs.Calls.{read_call}

-- the most octets of a line that is a call
abbrev pub most_line : ℕ
most_line = 2043

-- no longer line is a call
abbrev pub TooLong : Type 0
TooLong = (l : List ℕ) → most_line < length l → read_call l ≡ None

-- what a line says is said by so many octets at its front, and one more
abbrev pub FrontTells : Type 0
FrontTells = (l : List ℕ) → read_call (take (suc most_line) l) ≡ read_call l

-- accept with the digits of the longest frame
abbrev pub longest : List ℕ
longest = ascii "accept\t" ++ replicate most_digits (code "0")

-- it has that many octets, and is a call
abbrev pub LongestCalls : Type 0
LongestCalls = (length longest ≡ most_line) × (read_call longest ≡ Some (Ledger (Accept 1018)))
