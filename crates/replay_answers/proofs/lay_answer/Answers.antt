-- `lay_answer`: fields and a line feed, where there is room. Assumes nothing.
use Rattle.std.proofs.Common.{sym, ◌∙◌, arith}
use Rattle.replay_states.proofs.Saying.{line_laid}
use Rattle.replay_answers.specs.Answers.{answer_fields}
use Rattle.replay_answers.proofs.lay_answer.Goals as goal

pub returns-then-has_room : goal.returns-then-has_room
returns-then-has_room c = line_laid (answer_fields c.args.answer) (omega arith) (sym c.has_room.ensures ∙ c.if-has_room.true) c.put_answer.ensures c.put_end.ensures
