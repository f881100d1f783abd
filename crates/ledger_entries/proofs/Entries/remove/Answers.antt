-- `remove`: those behind the place move down by one.
-- Assumes nothing.
use Rattle.std.proofs.Common.{◌≡◌, ◌∙◌, ◌-◌, ap, length, List, arith}
use Rattle.bearer.specs.Bearer.{most_entries}
use Rattle.ledger_entries.specs.declared.Entry.{Entry}
use Rattle.ledger_entries.specs.View.{held_in}
use Rattle.ledger_entries.proofs.Slots.{without, held_count}
use Rattle.ledger_entries.proofs.Entries.remove.Goals as goal

pub returns-then-at-n : goal.returns-then-at-n
returns-then-at-n c =
    let s = c.args.self.now in
    let slots : length s.slots ≡ most_entries = omega arith in
    let n = length c.held-n.result.now in
    ap (λ (es : List Entry). held_in es (n - 1)) c.copy_within.ensures.after
    ∙ without s.slots s.count slots c.args.at n (held_count s.slots s.count slots c.held-n.result.now c.held-n.ensures) c.if-at-n.true
