-- `play`: each call by its end. Assumes nothing.
use Rattle.std.proofs.Common.{◌≡◌, ap, ◌∙◌}
use Rattle.std.specs.Prelude.{Some}
use Rattle.replay_calls.specs.declared.Call.TheVariants.{Open, Keeper, Ledger}
use Rattle.keeper_state.specs.Lent.{keeper_of}
use Rattle.ledger.specs.View.{ledger_in}
use Rattle.replay_lines.proofs.play.Goals as goal

pub returns-in-None-clause-plays : goal.returns-in-None-clause-plays
returns-in-None-clause-plays c = rw c.in-None.is (c.play_unreadable.ensures _ c.args.frame.now)

pub returns-in-Some-Open-clause-plays : goal.returns-in-Some-Open-clause-plays
returns-in-Some-Open-clause-plays c =
    let is : c.args.call ≡ Some (Open c.in-Some-Open.o) = c.in-Some-Open.is ∙ ap Some (rw c.in-Some-Open.is at c.in-Some-Open.field-0-is) in
    rw is (c.play_open.ensures.plays c.args.frame.now)

pub returns-in-Some-Keeper-clause-plays : goal.returns-in-Some-Keeper-clause-plays
returns-in-Some-Keeper-clause-plays c =
    let is : c.args.call ≡ Some (Keeper c.in-Some-Keeper.c) = c.in-Some-Keeper.is ∙ ap Some (rw c.in-Some-Keeper.is at c.in-Some-Keeper.field-0-is) in
    rw is (c.play_keeper.ensures.plays (ledger_in c.args.ledger.now) c.args.frame.now)

pub returns-in-Some-Ledger-clause-plays : goal.returns-in-Some-Ledger-clause-plays
returns-in-Some-Ledger-clause-plays c =
    let is : c.args.call ≡ Some (Ledger c.in-Some-Ledger.c) = c.in-Some-Ledger.is ∙ ap Some (rw c.in-Some-Ledger.is at c.in-Some-Ledger.field-0-is) in
    rw is (c.play_ledger.ensures (keeper_of c.args.state.now))
