-- `to_take`: the place that the library finds is the machine's.
-- Assumes nothing.
use Rattle.std.proofs.Common.{rules, tests, ◌∙◌, Bool, not}
use Rattle.std.proofs.lemmas.Iterator.{YieldsList-from_slice}
use Rattle.std.proofs.lemmas.Iterator.Search.{position_from_yields_List}
use Rattle.basics.specs.Basics.{◌or◌}
use Rattle.bearer.specs.Ledger.{waits}
use Rattle.ledger_entries.specs.declared.Entry.{Entry}
use Rattle.ledger_entries.specs.View.{entry_in}
use Rattle.ledger_entries.proofs.Passes.{taken_first}
use Rattle.ledger_entries.proofs.Entries.to_take.Goals as goal

pub returns : goal.returns
returns c =
    let may_go : Entry → Bool = λ e. c.args.closed or not (waits (entry_in e)) in
    position_from_yields_List may_go _ _ _ c.position.ensures.ran (YieldsList-from_slice c.held.result.now cc) (λ x b q k. search (rules, tests))
    ∙ taken_first c.args.closed c.held.result.now c.held.ensures
