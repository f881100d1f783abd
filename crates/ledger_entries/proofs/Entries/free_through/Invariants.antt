-- `free_through`: what is kept so far, and what freeing leaves of the rest, is what it leaves of all.
-- Assumes nothing.
use Rattle.std.proofs.Common.{◌≡◌, ◌-◌, ◌≤◌, ◌++◌, drop}
use Rattle.ledger_entries.specs.View.{entries_in, entries_of}
use Rattle.ledger_entries.specs.Steps.{free_while, Lowers}
use Rattle.ledger_entries.proofs.Passes.{in_front}
use Rattle.ledger_entries.proofs.Entries.free_through.Given as goal

abbrev pub invariant-loop-entry : goal.invariant-loop-entry
invariant-loop-entry l = record {
  below : l.kept ≤ l.entry-index;
  frees : free_while l.initial.going l.highest (entries_of l.others)
      ≡ in_front (l.entry-index - l.kept) (entries_in l.self.slots l.kept) (free_while l.going l.highest (drop l.entry-index (entries_of l.others)));
  lowers : Lowers l.initial.octets (entries_of l.others) (entries_in l.self.slots l.kept ++ drop l.entry-index (entries_of l.others)) l.octets;
}
