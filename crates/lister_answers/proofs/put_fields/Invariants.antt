-- `put_fields`: the numbers from each place on are still to be put. Assumes nothing.
use Rattle.std.proofs.Common.{drop}
use Rattle.lister_answers.specs.Parts.{tabbed}
use Rattle.lister_answers.proofs.Putting.{Leaves}
use Rattle.lister_answers.proofs.put_fields.Given as goal

abbrev pub invariant-loop-n : goal.invariant-loop-n
invariant-loop-n l = Leaves l.fn.out (tabbed l.numbers) l.out (tabbed (drop l.n-index l.numbers))
