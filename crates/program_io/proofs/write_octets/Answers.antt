-- `write_octets`: what one more write took stands behind what was taken before. Assumes nothing.
use Rattle.std.proofs.Common.{take, drop, arith, length-drop}
use Rattle.std.proofs.Math.Seq.{take-add}
use Rattle.basics.proofs.Parts.{rest_part}
use Rattle.program_io.proofs.Known.{appends_then}
use Rattle.program_io.proofs.write_octets.Goals as goal

pub loop-done-preserved : goal.loop-done-preserved
loop-done-preserved g c =
    let l = c.loop-done in
    let octets = c.args.octets.now in
    let n = c.in-Ok.n in
    let wrote = c.in-Ok.ensures in (
      omega (arith, wrote.bound, length-drop l.done octets),
      rw (take-add l.done n octets) (appends_then _ _ _ (take l.done octets) (take n (drop l.done octets)) l.invariant.1 (rw (rest_part octets l.done) at wrote.bytes)),
    )
