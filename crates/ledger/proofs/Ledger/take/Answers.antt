-- `take`: the oldest that may go is the machine's, the entries are left without it, and the oldest that waits is found again.
-- Assumes nothing.
use Rattle.std.proofs.Common.{◌∙◌, ◌+◌, ◌-◌, ℕ, drop, length, refl, sym, ap, arith}
use Rattle.bearer.specs.Ledger.{waiting_at, take_at}
use Rattle.ledger_entries.specs.View.{entries_of}
use Rattle.ledger_entries.proofs.Slots.{unread, Reached, here}
use Rattle.ledger.specs.View.{ledger_in}
use Rattle.ledger.proofs.Calls.{place_found, take_one}
use Rattle.ledger.proofs.Ledger.take.Goals as goal

pub returns : goal.returns
returns c =
    let l = c.args.self.now in
    let at = c.in_ok-at.at in
    let es = entries_of l.entries in
    let rest = entries_of c.remove.new.self in
    let found = place_found es (take_at l.closed es) at (sym c.to_take.ensures ∙ c.in_ok-at.ensures.ok_part) in
    let reached : Reached l.entries.slots l.entries.count (length es) at = record { far = omega arith; held = refl } in
    let place = c.waiting_from-self.ensures ∙ ap (λ (from : ℕ). from + waiting_at (drop from rest)) c.place_without-from.ensures in
    rw c.from.ensures
    (take_one (ledger_in l) at found.0 _ (here reached found.1 unread) rest c.remove.ensures _ place _
    (c.saturating_sub-self.ensures ∙ ap (λ (n : ℕ). l.octets - n) c.waiting_size.ensures))
