-- `send_rounds`: what is summed, with what the turns that are left add, is what all turns add.
-- Assumes nothing.
use Rattle.std.proofs.Common.{◌≡◌, ◌+◌, ◌-◌, ◌%◌, ◌^◌, ◌<◌}
use Rattle.ledger.specs.View.{ledger_in}
use Rattle.ledger_probe.specs.Rig.{total, number, rounds, send_round}
use Rattle.ledger_probe.proofs.send_rounds.Given as goal

abbrev pub invariant-loop-turn : goal.invariant-loop-turn
invariant-loop-turn l = record {
  fits : l.sum < 2 ^ 32;
  sums : (l.sum + total number (send_round l.pdcp l.round (ledger_in l.start)) (ledger_in l.ledger) l.turn (l.turns - l.turn)) % 2 ^ 32
      ≡ rounds l.pdcp l.round (ledger_in l.start) l.turns;
}
