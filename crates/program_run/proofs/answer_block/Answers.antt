-- `answer_block`: what a call took of what was left of the block, and what was taken of its answers.
-- Assumes nothing.
use Rattle.std.proofs.Common.{◌∙◌, [], true, false, ◌+◌, ◌≤◌, ◌<◌, length, arith, refl, ap, length-drop}
use Rattle.std.proofs.lemmas.Bool.Decides.{nat_tests}
use Rattle.program_lines.specs.Feeding.{Laws}
use Rattle.program_run.proofs.Runs.{begins, block_fed, fed, fails, same_size}
use Rattle.program_run.proofs.answer_block.Goals as goal

pub loop-rest-init : goal.loop-rest-init
loop-rest-init g c = record { loan = refl; size = refl; answered = begins _ _ c.args.block.now }

pub split_at-requires : goal.split_at-requires
split_at-requires g c = (block_fed g.A.AnswersLines.program g.met.A.AnswersLines.laws c.feed-taken.ensures).part

pub loop-rest-smaller : goal.loop-rest-smaller
loop-rest-smaller g c =
    let l = c.loop-rest in
    let laws : Laws g.A.AnswersLines.program _ _ = g.met.A.AnswersLines.laws in
    let f = block_fed g.A.AnswersLines.program laws c.feed-taken.ensures in
    let room : 0 + g.A.AnswersLines.program.most_text ≤ length l.out.octets.now = omega (arith, l.invariant.size, c.requires) in
    let some : 0 < length l.rest.now = grind (arith, nat_tests, c.loop-rest-test.ensures) in
    omega (arith, f.some room some, f.part, ap length c.split_at.ensures.back, length-drop c.feed-taken.result l.rest.now)

pub loop-rest-preserved : goal.loop-rest-preserved
loop-rest-preserved g c =
    let l = c.loop-rest in
    let f = block_fed g.A.AnswersLines.program g.met.A.AnswersLines.laws c.feed-taken.ensures in
    let wrote = rw c.laid.ensures at c.in-Ok.ensures in
    record {
      loan = f.lays.loan ∙ l.invariant.loan;
      size = same_size _ _ _ _ _ _ _ f ∙ l.invariant.size;
      answered = rw c.split_at.ensures.back (fed _ _ _ _ _ _ _ l.rest.now _ _ _ true _ _ refl l.invariant.answered f wrote.bytes wrote.counted.whole);
    }

pub returns-in-Err-clause-answered : goal.returns-in-Err-clause-answered
returns-in-Err-clause-answered g c =
    let l = c.loop-rest in
    let f = block_fed g.A.AnswersLines.program g.met.A.AnswersLines.laws c.feed-taken.ensures in
    let wrote = rw c.laid.ensures at c.in-Err.ensures in
    fails _ _ _ _ _ _ _ [] (fed _ _ _ _ _ _ _ l.rest.now _ _ _ false _ _ refl l.invariant.answered f wrote.bytes wrote.counted.whole)

pub returns-in-Err-clause-loan : goal.returns-in-Err-clause-loan
returns-in-Err-clause-loan g c =
    let i = c.loop-rest.invariant in
    let f = block_fed g.A.AnswersLines.program g.met.A.AnswersLines.laws c.feed-taken.ensures in
    (f.lays.loan ∙ i.loan, same_size _ _ _ _ _ _ _ f ∙ i.size)
