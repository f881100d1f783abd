-- `accept_turns`: what is summed, with what the turns that are left add, is what all turns add; and they leave what all leave.
-- Assumes nothing.
use Rattle.std.proofs.Common.{◌≡◌, ◌+◌, ◌-◌, ◌%◌, ◌^◌, ◌<◌}
use Rattle.ledger.specs.View.{ledger_in}
use Rattle.ledger_probe.specs.Rig.{left, total, counts, accept_again}
use Rattle.ledger_probe.proofs.accept_turns.Given as goal

abbrev pub invariant-loop-turn : goal.invariant-loop-turn
invariant-loop-turn l = record {
  fits : l.sum < 2 ^ 32;
  leaves : left (accept_again l.frame) (ledger_in l.ledger) l._turn (l.turns - l._turn) ≡ left (accept_again l.frame) (ledger_in l.fn.ledger) 0 l.turns;
  sums : (l.sum + total counts (accept_again l.frame) (ledger_in l.ledger) l._turn (l.turns - l._turn)) % 2 ^ 32
      ≡ total counts (accept_again l.frame) (ledger_in l.fn.ledger) 0 l.turns % 2 ^ 32;
}
