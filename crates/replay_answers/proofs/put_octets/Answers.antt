-- `put_octets`: each turn lays the next octet. Assumes nothing.
use Rattle.std.proofs.Common.{◌+◌, ◌*◌, length, arith}
use Rattle.std.proofs.Math.Seq.{take_all}
use Rattle.replay_parts.proofs.Putting.{puts_none, puts_then, puts_most}
use Rattle.replay_answers.proofs.Hexadecimal.{hex_more}
use Rattle.replay_answers.proofs.put_octets.Goals as goal

pub loop-octet-init : goal.loop-octet-init
loop-octet-init c = puts_none _ _

pub loop-octet-preserved : goal.loop-octet-preserved
loop-octet-preserved c =
    let l = c.loop-octet in
    rw (hex_more c.args.octets.now l.octet-index c.loop-octet-test.true) (puts_most ((l.octet-index + 1) * 2) (omega arith) (puts_then l.invariant c.put_hex.ensures))

pub returns : goal.returns
returns c =
    let l = c.loop-octet in
    let os = c.args.octets.now in
    rw (take_all l.octet-index os (omega arith)) at (puts_most (length os * 2) (omega arith) l.invariant)
