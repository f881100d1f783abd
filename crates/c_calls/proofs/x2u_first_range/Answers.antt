-- `x2u_first_range`: a refusal leaves the cursor. Assumes nothing.
use Rattle.std.proofs.Common.{sym, ◌∙◌, ap}
use Rattle.refusal.specs.Numbers as numbers
use Rattle.frame_layout.specs.Frames.{read_frame}
use Rattle.frame_layout.specs.Types.{number_of}
use Rattle.c_calls.specs.Boundary.{said}
use Rattle.c_calls.proofs.Answers.{left_as}
use Rattle.c_calls.proofs.Statuses.{begins_refused}
use Rattle.c_calls.proofs.x2u_first_range.Goals as goal

pub returns-in_default : goal.returns-in_default
returns-in_default c =
    let seen = c.in_default.is in
    left_as c.answer.type_inv (c.answer.ensures ∙ ap (said number_of) seen)
    (begins_refused c.args.cursor.now (read_frame c.args.frame.now) _ (ap (numbers.answer_of number_of) (sym seen) ∙ c.look-seen.ensures.0))
