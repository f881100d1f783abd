-- `has_news`: a listed run says yes, and else the first record's mark. Assumes nothing.
use Rattle.std.proofs.Common.{◌≡◌, get_or, not, sym, ◌∙◌, ap, rules}
use Rattle.basics.specs.Basics.{is_set}
use Rattle.keeper_report.proofs.Asking.{run_tells, marked_news}
use Rattle.keeper_report.proofs.has_news.Goals as goal

pub returns-then-not-is_empty : goal.returns-then-not-is_empty
returns-then-not-is_empty c = ap not c.if-not-is_empty.true ∙ sym (run_tells c.args.held.now (sym c.is_empty.ensures ∙ c.if-not-is_empty.true))

pub returns-else-not-is_empty : goal.returns-else-not-is_empty
returns-else-not-is_empty c =
    let marked : c.is_some_and.result ≡ is_set (get_or c.args.held.now.marks.now 0 0) = search rules in
    marked ∙ sym (marked_news c.args.held.now (sym c.is_empty.ensures ∙ c.if-not-is_empty.false))
