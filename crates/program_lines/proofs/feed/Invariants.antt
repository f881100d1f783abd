-- `feed`: what is left of the block is still to be fed, behind what is held of a line. Assumes nothing.
use Rattle.std.proofs.Common.{◌≡◌, ◌-◌, ◌≤◌, length, drop}
use Rattle.program_lines.specs.Feeding.{rest_into}
use Rattle.program_lines.proofs.feed.Given as goal

abbrev pub invariant-loop-taken : goal.invariant-loop-taken
invariant-loop-taken g l = record {
  loan : l.out.octets.ghost_name ≡ l.fn.out.octets.ghost_name;
  within : l.taken ≤ length l.block;
  few : l.line.held ≤ g.row.N;
  held : l.line.held ≤ length l.line.octets;
  inside : l.fn.out.at ≤ length l.fn.out.octets.now → l.out.at ≤ length l.out.octets.now;
  same : rest_into g.A.AnswersLines.program (length l.block) (g.A.AnswersLines.state l.fn.program) l.fn.line l.block l.fn.out
      ≡ rest_into g.A.AnswersLines.program (length l.block) (g.A.AnswersLines.state l.program) l.line (drop l.taken l.block) l.out;
}

abbrev pub decreases-loop-taken : goal.decreases-loop-taken
decreases-loop-taken g l = length l.block - l.taken
