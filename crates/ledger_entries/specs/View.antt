-- How entries in slots stand for the entries of the master's machine (the crate bearer, Ledger.antt). Slots past the count are no part of
-- them, and a count past the end counts as full, so that an array of any content is read.
-- Assumes nothing.
use Rattle.std.specs.Prelude.{List, map, ℕ, min, take}
use Rattle.bearer.specs.Bearer.{most_entries}
use Rattle.bearer.specs.Ledger as machine
use Rattle.ledger_entries.specs.declared.Fate as F
use Rattle.ledger_entries.specs.declared.Entry as E
use Rattle.ledger_entries.specs.declared.Entries as S

-- what became of a packet
abbrev pub fate_in : F.Fate → machine.Fate
fate_in F.TheVariants.Waiting = machine.waiting
fate_in F.TheVariants.Lost = machine.lost

-- an entry, which bears no label
abbrev pub entry_in : E.Entry → machine.Entry Unit
entry_in e = record { number = e.number; pdcp = e.pdcp; size = e.size; fate = fate_in e.fate; label = tt }

-- the entries in the first n slots
abbrev pub entries_in : List E.Entry → ℕ → List (machine.Entry Unit)
entries_in es n = take n (map entry_in es)

-- the entries that a count says, and no more than there are slots
abbrev pub held_in : List E.Entry → ℕ → List (machine.Entry Unit)
held_in es count = entries_in es (min count most_entries)

-- those that are held
abbrev pub entries_of : S.Entries → List (machine.Entry Unit)
entries_of e = held_in e.slots e.count
