-- `accept_turns`: an accepted frame is one of the turns that are left, and its answer is added.
-- Assumes nothing.
use Rattle.std.proofs.Common.{◌∙◌, arith}
use Rattle.ledger_probe.specs.Rig.{counts, accept_again}
use Rattle.ledger_probe.proofs.Turns.{left_more, sum_more}
use Rattle.ledger_probe.proofs.accept_turns.Goals as goal

pub loop-turn-preserved : goal.loop-turn-preserved
loop-turn-preserved c =
    let again = accept_again c.args.frame.now in
    let made = c.accept-answer.ensures in
    let v = c.loop-turn.invariant in
    record {
      fits = omega arith;
      leaves = left_more again c.args.turns made c.loop-turn-test.true ∙ v.leaves;
      sums = sum_more again c.args.turns made c.loop-turn-test.true counts c.loop-turn.sum c.add-sum.result (omega arith) ∙ v.sums;
    }
