-- `answer_all`: what one more read brought is answered behind what was read before.
-- Assumes nothing.
use Rattle.std.proofs.Common.{◌∙◌, ◌+◌, ◌≤◌, true, false, true≢false, sym, refl, length, take, arith, rules}
use mathlib.Core.Logic.{inr}
use Rattle.program_run.proofs.Runs.{counted, starts, nothing, goes_on, at_least, err}
use Rattle.program_run.proofs.answer_all.Goals as goal

pub loop-reads-init : goal.loop-reads-init
loop-reads-init g c = record { block = refl; loan = refl; size = refl; going = starts _ _ _ }

pub returns-in_err-lines-in-Ok-clause-going : goal.returns-in_err-lines-in-Ok-clause-going
returns-in_err-lines-in-Ok-clause-going g c =
    let r = c.in-Ok.ensures in
    let n = c.in-Ok.n in
    let m = counted c.loop-reads.reads in
    let stopped = err c.from_residual.result c.from_residual.ensures.0 in
    let some : 1 ≤ length (take n c.read_block.new.block) = omega (arith, r.prefix_len.1, c.in-Ok.n-test) in
    rw stopped (
      m + 1,
      goes_on _ _ _ _ _ _ _ _ _ (take n c.read_block.new.block) m 1 false c.loop-reads.invariant.going r.bytes some c.in_err-lines-in-Ok.ensures.answered,
      λ e. absurd (true≢false (sym e)),
    )

pub returns-in-Err-clause-going : goal.returns-in-Err-clause-going
returns-in-Err-clause-going g c = (counted c.loop-reads.reads, nothing _ _ _ _ _ _ _ _ false c.loop-reads.invariant.going c.in-Err.ensures.bytes, λ e. absurd (true≢false (sym e)))

pub loop-reads-preserved : goal.loop-reads-preserved
loop-reads-preserved g c =
    let i = c.loop-reads.invariant in
    let r = c.in-Ok.ensures in
    let n = c.in-Ok.n in
    let some : 1 ≤ length (take n c.read_block.new.block) = omega (arith, r.prefix_len.1, c.in-Ok.n-test) in
    let answered = c.in_ok-lines-in-Ok.ensures in
    let m = counted c.loop-reads.reads in
    record {
      block = search rules;
      loan = answered.loan.0 ∙ i.loan;
      size = answered.loan.1 ∙ i.size;
      going = at_least (omega arith) (goes_on _ _ _ _ _ _ _ _ _ (take n c.read_block.new.block) m 1 true i.going r.bytes some answered.answered);
    }

pub returns-clause-going : goal.returns-clause-going
returns-clause-going g c = (counted c.loop-reads.reads, c.loop-reads.invariant.going, λ e. inr (omega arith))
