-- `lay_frame`: fields and a line feed, where there is room. Assumes nothing.
use Rattle.std.proofs.Common.{take, sym, ◌∙◌, arith, length-take}
use Rattle.replay_states.proofs.Saying.{line_laid}
use Rattle.replay_answers.specs.Answers.{frame_fields, most_frame}
use Rattle.replay_answers.proofs.lay_frame.Goals as goal

pub returns-then-has_room : goal.returns-then-has_room
returns-then-has_room c =
    let frame = c.args.frame.now in
    line_laid (frame_fields (take most_frame frame)) (omega (arith, length-take most_frame frame)) (sym c.has_room.ensures ∙ c.if-has_room.true) (rw c.front.ensures at c.put_frame.ensures) c.put_end.ensures
