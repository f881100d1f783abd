-- `put_ranges`: the ranges that the view still shows, each behind a comma, are still to be put. Assumes nothing.
use Rattle.frame_view.specs.Views.{ahead_of}
use Rattle.lister_text.specs.Texts.{ranges_text}
use Rattle.lister_answers.proofs.Texts.{more_text}
use Rattle.lister_answers.proofs.Putting.{Leaves}
use Rattle.lister_answers.proofs.put_ranges.Given as goal

abbrev pub invariant-loop-range : goal.invariant-loop-range
invariant-loop-range l = Leaves l.fn.out (ranges_text (ahead_of l.fn.ranges)) l.out (more_text (ahead_of l.range-iterator))
