-- All ranges: one is laid in a turn, and at last none is left. Assumes nothing.
use Rattle.std.proofs.Common.{refl, length-append}
use Rattle.basics.proofs.Laying.{laid_none, laid_then, laid_room}
use Rattle.frame_writer.proofs.Ranges.{none_left}
use Rattle.frame_writer.proofs.put_ranges.Goals as goal

pub loop-start-preserved : goal.loop-start-preserved
loop-start-preserved c =
    let laid = c.put_range-at.ensures in
    let inv = c.loop-start.invariant in
    let steps = c.in-Some.ensures.steps in
    record {
      room = laid_room _ laid (rw (steps.0, steps.1, length-append) at inv.room);
      laid = λ next e l. inv.laid next e (rw (steps.0, steps.1) (laid_then laid l));
    }

pub returns : goal.returns
returns c =
    let p = c.loop-start in
    p.invariant.laid _ _ (rw (none_left p.start-iterator.a.rest.now p.start-iterator.b.rest.now c.in-None.ensures.steps) (laid_none _ refl))
