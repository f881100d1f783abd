-- `room_turns`: what is summed, with what the turns that are left add, is what all turns add.
-- Assumes nothing.
use Rattle.std.proofs.Common.{◌≡◌, ◌+◌, ◌-◌, ◌%◌, ◌^◌, ◌<◌}
use Rattle.ledger.specs.View.{ledger_in}
use Rattle.ledger_probe.specs.Rig.{total, number, ask_room}
use Rattle.ledger_probe.proofs.room_turns.Given as goal

abbrev pub invariant-loop-turn : goal.invariant-loop-turn
invariant-loop-turn l = record {
  fits : l.sum < 2 ^ 32;
  sums : (l.sum + total number ask_room (ledger_in l.ledger) l._turn (l.turns - l._turn)) % 2 ^ 32
      ≡ total number ask_room (ledger_in l.fn.ledger) 0 l.turns % 2 ^ 32;
}
