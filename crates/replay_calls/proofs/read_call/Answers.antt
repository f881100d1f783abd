-- `read_call`: a line is its first field and the fields behind it. Assumes nothing.
use Rattle.std.proofs.Common.{ap, sym, ◌∙◌}
use Rattle.replay_calls.specs.Calls.{call_in, read_call}
use Rattle.replay_calls.proofs.Fields.{fields_split}
use Rattle.replay_calls.proofs.read_call.Goals as goal

pub returns-clause-call : goal.returns-clause-call
unfolding read_call
returns-clause-call c =
    (rw (c.first_parted.ensures.field, c.first_parted.ensures.behind) at c.call_of.ensures.call) ∙ sym (ap call_in (fields_split c.args.line.now))
