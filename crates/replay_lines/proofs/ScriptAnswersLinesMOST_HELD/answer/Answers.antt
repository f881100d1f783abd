-- `answer`: the line is played into the output, whatever stood in the frame's buffer. Assumes nothing.
use Rattle.std.proofs.Common.{arith}
use Rattle.replay_lines.proofs.Playing.{frame_plays, line_said}
use Rattle.replay_lines.proofs.ScriptAnswersLinesMOST_HELD.answer.Goals as goal

pub returns : goal.returns
returns c =
    let l = c.args.line.now in
    line_said l (frame_plays l c.args.self.now.frame (omega (arith, c.read_call-call.array_long)) (rw (c.read_call-call.ensures.call, c.read_call-call.ensures.decoded) at c.play.ensures.plays))
