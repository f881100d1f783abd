-- `filled`: a send is one of the turns that are left.
-- Assumes nothing.
use Rattle.std.proofs.Common.{◌∙◌, min, arith}
use Rattle.bearer.specs.Bearer.{most_entries}
use Rattle.ledger_probe.specs.Rig.{send_next}
use Rattle.ledger_probe.proofs.Turns.{left_more}
use Rattle.ledger_probe.proofs.filled.Goals as goal

pub loop-i-preserved : goal.loop-i-preserved
loop-i-preserved c = left_more send_next (min c.args.entries most_entries) c.send-answer.ensures (omega arith) ∙ c.loop-i.invariant
