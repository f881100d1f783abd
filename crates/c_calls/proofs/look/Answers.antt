-- `look`: a status's count is how many ranges it has. Assumes nothing.
use Rattle.std.proofs.Common.{ap, ◌∙◌}
use Rattle.c_calls.specs.Boundary.{fields_of}
use Rattle.c_calls.specs.Looks.{kind_of}
use Rattle.basics.specs.Basics.{done}
use Rattle.c_calls.proofs.Statuses.{status_fields_lem}
use Rattle.c_calls.proofs.look.Goals as goal

pub returns-in-Status : goal.returns-in-Status
returns-in-Status c =
    let a = c.args in
    let h = c.in-Status.head in
    let e = c.in-Status.ensures in (
      ap done c.status_type.ensures ∙ ap kind_of e,
      rw c.from.ensures (status_fields_lem a.frame.now a.fields.now h) ∙ ap (fields_of a.fields.now) e,
    )
