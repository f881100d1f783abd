-- `x2u_read`: the answer is the type, or minus the number of the refusal. Assumes nothing.
use Rattle.std.proofs.Common.{ℕ, List, ◌∙◌, ap}
use Rattle.frame_layout.specs.Frames.{read_frame}
use Rattle.frame_layout.specs.Types.{number_of}
use Rattle.c_calls.specs.Boundary.{leaves, type_of, itself}
use Rattle.c_calls.proofs.Answers.{left_as, said_as}
use Rattle.c_calls.proofs.Statuses.{type_said}
use Rattle.c_calls.proofs.x2u_read.Goals as goal

pub returns : goal.returns
returns c =
    let x = read_frame c.args.frame.now in
    let saw = c.look.ensures in
    left_as c.answer.type_inv (c.answer.ensures ∙ said_as number_of itself c.look.result saw.0 ∙ type_said x) (ap (λ (l : List ℕ). leaves (type_of x) l) saw.1)
