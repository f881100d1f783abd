-- The count and the ranges: there is room for the ranges behind the count. Assumes nothing.
use Rattle.std.proofs.Common.{length-set, arith}
use Rattle.frame_layout.specs.Frames.{ranges_of, width}
use Rattle.frame_layout.proofs.Ranges.{ranges_count}
use Rattle.frame_writer.proofs.Lengths.{length_list}
use Rattle.frame_writer.proofs.put_list.Goals as goal

pub put_ranges-requires : goal.put_ranges-requires
put_ranges-requires c =
    let a = c.args in
    let count = ranges_count a.starts.now a.ends.now in
    let list = length_list (width a.long) (ranges_of a.starts.now a.ends.now) (λ e. c.if-count-eq0.false (omega arith)) in
    omega (arith, length-set a.dst.now a.at c.min-count.result)
