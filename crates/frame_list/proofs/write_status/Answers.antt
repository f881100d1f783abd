-- A status over a lent list: one range is copied in a turn, and what the writer is shown is written as the list is. Assumes nothing.
use Rattle.std.proofs.Common.{◌≡◌, ◌∙◌, ◌<◌, length, length-set, refl, arith}
use Rattle.frame_list.proofs.Fronts.{copied, same_written}
use Rattle.frame_list.proofs.write_status.Goals as goal

pub loop-i-preserved : goal.loop-i-preserved
loop-i-preserved c =
    let p = c.loop-i in
    let rs = c.args.ranges.now in
    let there : p.i < length rs = omega arith in
    record {
      starts_long = length-set _ _ _ ∙ p.invariant.starts_long;
      ends_long = length-set _ _ _ ∙ p.invariant.ends_long;
      starts_copied = copied (λ r. r.start) rs p.starts p.i there (omega arith) refl p.invariant.starts_copied;
      ends_copied = copied (λ r. r.end) rs p.ends p.i there (omega arith) refl p.invariant.ends_copied;
    }

pub returns : goal.returns
returns c =
    let a = c.args in
    let p = c.loop-i in
    let last : p.i ≡ c.min-n.result = omega arith in
    c.write_status.ensures ∙ same_written a.head a.ranges.now a.dst.now c.min-n.result c.min-n.ensures (rw last at p.invariant.starts_copied) (rw last at p.invariant.ends_copied)
