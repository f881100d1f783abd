-- `answer_block`: what was fed is answered and written, and the output keeps its octets.
-- Assumes nothing.
use Rattle.std.proofs.Common.{◌≡◌, true, length}
use Rattle.program_run.specs.Running.{told_by, Answered}
use Rattle.program_run.proofs.answer_block.Given as goal

abbrev pub invariant-loop-rest : goal.invariant-loop-rest
invariant-loop-rest g l = record {
  loan : l.out.octets.ghost_name ≡ l.fn.out.octets.ghost_name;
  size : length l.out.octets.now ≡ length l.fn.out.octets.now;
  answered : Answered (g.W.Write.contents l.fn.output) (g.W.Write.contents l.output) (told_by g.A.AnswersLines.program g.A.AnswersLines.state l.fn.reading) l.fn.block true (told_by g.A.AnswersLines.program g.A.AnswersLines.state l.reading) l.rest;
}

abbrev pub decreases-loop-rest : goal.decreases-loop-rest
decreases-loop-rest g l = length l.rest
