-- Whether all ranges are of the form. The invariant: those that are left are all of the form exactly if all are.
-- Assumes nothing.
use Rattle.std.proofs.Common.{◌≡◌}
use Rattle.basics.specs.Basics.{all}
use Rattle.frame_layout.specs.Frames.{in_form, ranges_of}
use Rattle.frame_writer.proofs.all_in_form.Given as goal

abbrev pub invariant-loop-start : goal.invariant-loop-start
invariant-loop-start l = all (in_form l.long) (ranges_of l.start-iterator.a.rest.now l.start-iterator.b.rest.now) ≡ all (in_form l.long) (ranges_of l.starts l.ends)
