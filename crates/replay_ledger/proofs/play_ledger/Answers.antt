-- `play_ledger`: one step, where there is room for its line. Assumes nothing.
use Rattle.std.proofs.Common.{refl, sym, ◌∙◌}
use Rattle.std.specs.Prelude.{Some}
use Rattle.ledger.specs.View.{ledger_in}
use Rattle.replay_calls.specs.declared.Call.TheVariants.{Ledger}
use Rattle.replay_ends.proofs.Steps.{into_room, into_full, into_same, plays_unopened, plays_ledger}
use Rattle.replay_ledger.proofs.play_ledger.Goals as goal

pub returns-then-not-opened : goal.returns-then-not-opened
returns-then-not-opened c =
    λ k. into_same _ (Some (Ledger c.args.call)) c.args.frame.now (plays_unopened _ (Ledger c.args.call) c.args.frame.now refl c.if-not-opened.true) c.lay_answer.ensures

pub returns-then-has_room : goal.returns-then-has_room
returns-then-has_room c =
    λ k. into_room _ (Some (Ledger c.args.call)) c.args.frame.now (sym c.has_room.ensures ∙ c.if-has_room.true)
    (plays_ledger c.args.opened k (ledger_in c.args.ledger.now) c.args.call c.args.frame.now c.if-not-opened.false c.step.ensures)

pub returns-else-has_room : goal.returns-else-has_room
returns-else-has_room c = λ k. into_full _ _ (Some (Ledger c.args.call)) c.args.frame.now (sym c.has_room.ensures ∙ c.if-has_room.false)
