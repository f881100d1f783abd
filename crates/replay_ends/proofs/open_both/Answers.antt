-- `open_both`: a refused open leaves what was there. Assumes nothing.
use Rattle.std.proofs.Common.{◌≡◌, rules}
use Rattle.std.specs.Prelude.{Err}
use Rattle.bearer.specs.Keeper.{open_keeper}
use Rattle.bearer.specs.Ledger.{open_ledger}
use Rattle.keeper_state.specs.Lent.{keeper_of}
use Rattle.ledger.specs.View.{ledger_in}
use Rattle.replay_ends.proofs.Opening.{refused_alike}
use Rattle.replay_ends.proofs.open_both.Goals as goal

pub returns-in_err-open-clause-opens : goal.returns-in_err-open-clause-opens
returns-in_err-open-clause-opens c =
    let o = c.args.o in
    let err : c.from_residual.result ≡ Err c.in_err-open.field-0.0 = search rules in
    rw err
    (refused_alike c.args.opened.now (keeper_of c.args.state.now) (keeper_of c.open.new.state) (ledger_in c.args.ledger.now) (open_keeper o.bits o.first o.pdcp) (open_ledger o.bits o.first o.pdcp) c.in_err-open.field-0.0
    (rw c.in_err-open.was at c.open.ensures.words_after))
