-- `filled`: what the packets still to be sent leave is what all leave.
-- Assumes nothing.
use Rattle.std.proofs.Common.{◌≡◌, ◌-◌, min}
use Rattle.bearer.specs.Bearer.{most_entries}
use Rattle.ledger.specs.View.{ledger_in}
use Rattle.ledger_probe.specs.Rig.{left, send_next, filled}
use Rattle.ledger_probe.proofs.filled.Given as goal

abbrev pub invariant-loop-i : goal.invariant-loop-i
invariant-loop-i l = left send_next (ledger_in l.ledger) l.i (min l.entries most_entries - l.i) ≡ filled l.bits l.entries
