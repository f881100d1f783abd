-- `push`: a slot is free behind the last.
-- Assumes nothing.
use Rattle.std.proofs.Common.{◌≡◌, length, refl, arith}
use Rattle.bearer.specs.Bearer.{most_entries}
use Rattle.ledger_entries.proofs.Slots.{slot_free, pushed}
use Rattle.ledger_entries.proofs.Entries.push.Goals as goal

pub returns : goal.returns
returns c =
    let s = c.args.self.now in
    let slots : length s.slots ≡ most_entries = omega arith in
    rw (slot_free s.slots s.count slots c.if-self-ge-MOST_ENTRIES.false) (refl, pushed s.slots s.count slots c.if-self-ge-MOST_ENTRIES.false c.args.entry refl)
