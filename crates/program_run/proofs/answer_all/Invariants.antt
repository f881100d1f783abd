-- `answer_all`: each turn counts its read and read an octet at least, and what was read is answered; block and output keep their sizes.
-- Assumes nothing.
use Rattle.std.proofs.Common.{◌≡◌, true, length}
use Rattle.program_run.specs.Running.{told_by, Going}
use Rattle.program_run.proofs.Runs.{counted}
use Rattle.program_run.proofs.answer_all.Given as goal

abbrev pub decreases-loop-reads : goal.decreases-loop-reads
decreases-loop-reads g l = l.reads

abbrev pub invariant-loop-reads : goal.invariant-loop-reads
invariant-loop-reads g l = record {
  block : length l.block ≡ length l.fn.block;
  loan : l.out.octets.ghost_name ≡ l.fn.out.octets.ghost_name;
  size : length l.out.octets.now ≡ length l.fn.out.octets.now;
  going : Going (g.R.Read.remaining l.fn.input) (g.R.Read.remaining l.input) (g.W.Write.contents l.fn.output) (g.W.Write.contents l.output) (told_by g.A.AnswersLines.program g.A.AnswersLines.state l.fn.reading) (counted l.reads) true (told_by g.A.AnswersLines.program g.A.AnswersLines.state l.reading);
}
