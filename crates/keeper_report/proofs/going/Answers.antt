-- `going`: where no run is left out, marks alone say what goes. Assumes nothing.
use Rattle.std.proofs.Common.{◌∙◌, sym, length}
use borrow.Author.Tests.{eqb-true}
use Rattle.circle.specs.Lengths.{modulus}
use Rattle.keeper_report.proofs.Letting.{marks_say}
use Rattle.keeper_report.proofs.going.Goals as goal

pub returns-then-is_empty : goal.returns-then-is_empty
returns-then-is_empty c =
    let a = c.args in
    c.marked.ensures ∙ marks_say (modulus a.long) a.left_out.now a.numbers.now a.marks.now (eqb-true (length a.left_out.now) 0 (sym c.is_empty.ensures ∙ c.if-is_empty.true)) c.requires
