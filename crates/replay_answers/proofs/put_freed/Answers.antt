-- `put_freed`: its parts one behind another. Assumes nothing.
use Rattle.std.proofs.Common.{◌≡◌, rules}
use Rattle.basics.specs.Basics.{bit}
use Rattle.replay_parts.proofs.Putting.{puts_parts, puts_then}
use Rattle.replay_answers.proofs.put_freed.Goals as goal

pub returns : goal.returns
returns c =
    let final : c.from.result ≡ bit c.args.last = search rules in
    rw (← final) (puts_then (puts_parts c.put_named.ensures) (puts_then (puts_parts c.put_named-2.ensures) (puts_parts c.put_named-3.ensures)))
