-- `may_be_highest`: what the library finds is what the machine does.
-- Assumes nothing.
use Rattle.std.proofs.Common.{rules, tests, ◌∙◌, ap, Bool, eqb, ne_eqb}
use Rattle.std.proofs.lemmas.Iterator.{YieldsList-from_slice}
use Rattle.std.proofs.lemmas.Iterator.Search.{any_from_yields_List}
use Rattle.basics.specs.Basics.{◌and◌}
use Rattle.bearer.specs.Ledger.{waits, waits_for}
use Rattle.ledger_entries.specs.declared.Entry.{Entry}
use Rattle.ledger_entries.specs.View.{entry_in}
use Rattle.ledger_entries.proofs.Passes.{looked}
use Rattle.ledger_entries.proofs.Entries.may_be_highest.Goals as goal

pub returns-else-highest-last : goal.returns-else-highest-last
returns-else-highest-last c =
    let h = c.args.highest in
    let bears : Entry → Bool = λ e. waits (entry_in e) and eqb e.pdcp h in
    rw (ne_eqb _ _ c.if-highest-last.false)
    (any_from_yields_List bears _ _ _ c.any.ensures.ran (YieldsList-from_slice c.held.result.now cc) (λ x b q k. search (rules, tests))
    ∙ looked h c.held.result.now ∙ ap (waits_for h) c.held.ensures)
