-- `waiting_from`: the place that the library finds among those behind is the machine's.
-- Assumes nothing.
use Rattle.std.proofs.Common.{rules, tests, ◌∙◌, ap, Bool, ℕ, ◌+◌, length}
use Rattle.std.specs.List.{slice_range}
use Rattle.std.proofs.lemmas.Iterator.{YieldsList-from_slice}
use Rattle.std.proofs.lemmas.Iterator.Search.{position_from_yields_List}
use Rattle.bearer.specs.Ledger.{waits}
use Rattle.ledger_entries.specs.declared.Entry.{Entry}
use Rattle.ledger_entries.specs.View.{entry_in}
use Rattle.ledger_entries.proofs.Passes.{waiting_behind}
use Rattle.ledger_entries.proofs.Entries.waiting_from.Goals as goal

pub returns : goal.returns
returns c =
    let held = c.held-held.result.now in
    let behind = slice_range held c.min.result (length held) in
    let waiting : Entry → Bool = λ e. waits (entry_in e) in
    let found = position_from_yields_List waiting _ _ _ c.position.ensures.ran (YieldsList-from_slice behind cc) (λ x b q k. search (rules, tests)) in
    ap (λ (n : ℕ). c.args.place + n) (c.unwrap_or.ensures ∙ waiting_behind held c.held-held.ensures c.args.place c.min.result c.min.ensures c.position.result found)
