-- `room_turns`: a room that is asked for is one of the turns that are left, and what was answered is added.
-- Assumes nothing.
use Rattle.std.proofs.Common.{◌≡◌, refl, ℕ, ◌+◌, ◌%◌, ◌^◌, ◌∙◌, arith}
use Rattle.basics.specs.Basics.{done}
use Rattle.bearer.specs.Ledger.{Ledger, kept_room}
use Rattle.ledger.specs.View.{ledger_in, beside}
use Rattle.ledger_probe.specs.Rig.{number, desiring, ask_room}
use Rattle.ledger_probe.proofs.Turns.{sum_more}
use Rattle.ledger_probe.proofs.room_turns.Goals as goal

-- room was asked for, and the desired size is greater by 1 or 2
asked : (l : Ledger Unit) (i : ℕ) {r d : ℕ} → r ≡ kept_room l → d ≡ (l.desired + (1 + r % 2)) % 2 ^ 32 → beside (done r) (desiring l d) ≡ ask_room i l
asked l i a b = rw (b, a)

pub loop-turn-preserved : goal.loop-turn-preserved
loop-turn-preserved c =
    let p = c.loop-turn in
    let made = asked (ledger_in p.ledger) p._turn c.room-room.ensures refl in
    record {
      fits = omega arith;
      sums = sum_more ask_room c.args.turns made c.loop-turn-test.true number p.sum _ refl ∙ p.invariant.sums;
    }
