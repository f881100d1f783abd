-- `accept_call`: what is decoded is all that stands behind the tab. Assumes nothing.
use Rattle.std.proofs.Common.{ap, sym, ◌∙◌}
use Rattle.replay_calls.specs.Calls.{framed}
use Rattle.replay_calls.proofs.Accept.{accept_behind}
use Rattle.replay_calls.proofs.accept_call.Goals as goal

pub returns-in_err-octets-clause-call : goal.returns-in_err-octets-clause-call
returns-in_err-octets-clause-call c =
    c.from_residual.ensures ∙ ap framed (sym c.in_err-octets.was ∙ c.decode.ensures.0) ∙ sym (accept_behind c.args.fields.now c.in-len1-up.len_at_least)

pub returns-clause-call : goal.returns-clause-call
returns-clause-call c = ap framed (sym c.in_ok-octets.was ∙ c.decode.ensures.0) ∙ sym (accept_behind c.args.fields.now c.in-len1-up.len_at_least)
