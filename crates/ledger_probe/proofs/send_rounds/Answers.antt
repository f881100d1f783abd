-- `send_rounds`: a send is one of the turns that are left, into the first ledger or the one at hand, and its answer is added.
-- Assumes nothing.
use Rattle.std.specs.Prelude.{if◌then◌else◌}
use Rattle.std.proofs.Common.{◌≡◌, ◌+◌, ◌%◌, Bool, eqb, sym, ap, ◌∙◌, arith, eq-eqb, ne_eqb}
use Rattle.bearer.specs.Ledger.{Ledger}
use Rattle.ledger.specs.View.{ledger_in}
use Rattle.ledger_probe.specs.Rig.{send_next, send_round, number}
use Rattle.ledger_probe.proofs.Turns.{sum_more}
use Rattle.ledger_probe.proofs.send_rounds.Goals as goal
use Rattle.ledger_probe.proofs.send_rounds.Goals.{then-at-eq0, else-at-eq0}

pub loop-turn-preserved : goal.loop-turn-preserved
loop-turn-preserved c =
    let a = c.args in
    let p = c.loop-turn in
    let first = ledger_in a.start.now in
    let at = p.turn % a.round in
    let chosen : Bool → Ledger Unit = λ b. if b then first else ledger_in p.ledger in
    let into : ledger_in c.if-at-eq0.ledger ≡ (if eqb at 0 then first else ledger_in p.ledger) = elim c.if-at-eq0.branch [
      | then-at-eq0 w ↦ ap ledger_in w.ledger-is ∙ sym (ap chosen (eq-eqb at 0 w.if-at-eq0.true))
      | else-at-eq0 w ↦ ap ledger_in w.ledger-is ∙ sym (ap chosen (ne_eqb at 0 w.if-at-eq0.false))
    ] in
    let made = c.send-answer.ensures ∙ ap (send_next (a.pdcp + at)) into in
    record {
      fits = omega arith;
      sums = sum_more (send_round a.pdcp a.round first) a.turns made c.loop-turn-test.true number p.sum c.add-sum.result c.add-sum.ensures ∙ p.invariant.sums;
    }
