-- A refused call changes nothing, of either machine, in every state: no state, and of a status no octet of the buffer.
-- Assumes nothing.
use Rattle.bearer.specs.Refusals.{RefusalsKeep}
use Rattle.bearer.proofs.Answers.Refused.{send_keeps, accept_keeps, take_keeps, arrive_keeps, expire_keeps, confirm_keeps}
use Rattle.bearer.proofs.Answers.Reported.{status_keeps}

pub refusals_keep : RefusalsKeep
refusals_keep = (
  (λ k. record { arrivals = arrive_keeps k; expiries = expire_keeps k; confirms = confirm_keeps k; statuses = status_keeps k }),
  (λ A l. record { sends = send_keeps l; accepts = accept_keeps l; takes = take_keeps l }),
)
