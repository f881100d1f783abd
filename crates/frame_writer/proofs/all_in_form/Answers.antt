-- Whether all ranges are of the form: at last none is left. Assumes nothing.
use Rattle.std.proofs.Common.{refl}
use Rattle.frame_writer.proofs.Ranges.{none_left}
use Rattle.frame_writer.proofs.all_in_form.Goals as goal

pub returns : goal.returns
returns c = rw (← c.loop-start.invariant, none_left c.loop-start.start-iterator.a.rest.now c.loop-start.start-iterator.b.rest.now c.in-None.ensures.steps) refl
