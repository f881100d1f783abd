-- `is_in_order`: the entry at the place of the oldest waiting one.
-- Assumes nothing.
use Rattle.std.proofs.Common.{◌∙◌, sym}
use Rattle.ledger_entries.proofs.Slots.{unread, stands}
use Rattle.ledger.specs.View.{ledger_in}
use Rattle.ledger.proofs.Calls.{order_oldest}
use Rattle.ledger.proofs.Ledger.is_in_order.Goals as goal

pub returns-in-Some : goal.returns-in-Some
returns-in-Some c =
    let look = c.in-Some.ensures.lookup in
    let at = stands c.held.result.now c.held.ensures c.args.self.now.oldest look.3.0 unread in
    c.follows.ensures ∙ rw (look.3.1 unread) (sym (order_oldest (ledger_in c.args.self.now) c.args.pdcp c.if-pdcp-self.false at))
