-- `run`: behind all that was read and answered the answer to a last line, or where something failed nothing more.
-- Assumes nothing.
use Rattle.std.proofs.Common.{◌+◌, ◌≤◌, length, arith, refl, ◌∙◌}
use Rattle.program_lines.specs.Feeding.{Laws}
use Rattle.program_run.proofs.Runs.{ran, ran_short, last_laid, last_finished}
use Rattle.program_run.proofs.run.Goals as goal

pub returns-in_default : goal.returns-in_default
returns-in_default g c = let e = c.in_default.ensures.going in ran_short _ _ _ _ _ _ e.0 e.1

pub returns : goal.returns
returns g c =
    let e = c.in-Ok.ensures.going in
    let w = rw c.laid.ensures at c.write_answers.ensures in
    let laws : Laws g.A.AnswersLines.program _ _ = g.met.A.AnswersLines.laws in
    let room : 0 + g.A.AnswersLines.program.most_text ≤ length c.answer_all.new.out.octets.now = omega (arith, laws.fits, laws.room, c.in-Ok.ensures.loan.1, c.large_buffer-answers.ensures) in
    let last = last_laid _ _ _ _ refl room (last_finished g.A.AnswersLines.program laws c.finish.ensures) in
    ran _ _ _ _ _ _ _ e.0 _ _ e.1 (e.2 refl) (rw last at w.bytes) (c.is_ok.ensures.value ∙ (rw last at w.counted.whole))
