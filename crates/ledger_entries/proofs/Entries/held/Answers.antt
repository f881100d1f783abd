-- `held`: the front of the slots.
-- Assumes nothing.
use Rattle.std.proofs.Common.{ap, ◌∙◌, map, arith}
use Rattle.ledger_entries.specs.View.{entry_in}
use Rattle.ledger_entries.proofs.Slots.{front_is}
use Rattle.ledger_entries.proofs.Entries.held.Goals as goal

pub returns : goal.returns
returns c = ap (map entry_in) c.front.ensures ∙ front_is c.args.self.now.slots c.args.self.now.count (omega arith)
