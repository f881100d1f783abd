-- What the passes over entries leave, in the machine's words.
-- Assumes nothing.
use Rattle.std.specs.Prelude.{◌≡◌, Bool, List, ℕ, ◌≤◌, ltb, leb, length, Option, Some, None, if◌then◌else◌}
use Rattle.bearer.specs.Bearer.{most_entries}
use Rattle.bearer.specs.Ledger as machine

-- no slot is free
abbrev pub is_full : List (machine.Entry Unit) → Bool
is_full es = leb most_entries (length es)

-- a place among entries, if one stands there
abbrev pub place_in : List (machine.Entry Unit) → ℕ → Option ℕ
place_in es at = if ltb at (length es) then Some at else None

-- entries that stay, and how many were freed
abbrev pub passed_of : List (machine.Entry Unit) → ℕ → machine.Passed Unit
passed_of es count = record { entries = es; count = count }

-- freeing goes on through h, or it has ended
abbrev pub free_while : Bool → ℕ → List (machine.Entry Unit) → machine.Passed Unit
free_while going h es = if going then machine.free_through h es else passed_of es 0

-- a sum of waiting sizes when others took the place of entries: no more of them waits than did, and so much of it is left as the machine leaves
pub record Lowers (octets : ℕ) (es others : List (machine.Entry Unit)) (left : ℕ) : Type 0 where
  pub no_more : machine.waiting_sizes others ≤ machine.waiting_sizes es
  pub left_is : left ≡ machine.lowered octets es others
