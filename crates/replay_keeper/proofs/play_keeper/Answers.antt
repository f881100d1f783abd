-- `play_keeper`: one step, where there is room for its line. Assumes nothing.
use Rattle.std.proofs.Common.{refl, sym, ◌∙◌}
use Rattle.std.specs.Prelude.{Some}
use Rattle.keeper_state.specs.Lent.{keeper_of}
use Rattle.replay_calls.specs.declared.Call.TheVariants.{Keeper}
use Rattle.replay_ends.proofs.Steps.{into_room, into_full, into_same, plays_unopened, plays_keeper}
use Rattle.replay_keeper.proofs.play_keeper.Goals as goal

pub returns-then-not-opened-clause-plays : goal.returns-then-not-opened-clause-plays
returns-then-not-opened-clause-plays c =
    λ l frame. into_same _ (Some (Keeper c.args.call)) frame (plays_unopened _ (Keeper c.args.call) frame refl c.if-not-opened.true) c.lay_answer.ensures

pub returns-then-has_room-clause-plays : goal.returns-then-has_room-clause-plays
returns-then-has_room-clause-plays c =
    λ l frame. into_room _ (Some (Keeper c.args.call)) frame (sym c.has_room.ensures ∙ c.if-has_room.true)
    (plays_keeper c.args.opened (keeper_of c.args.state.now) l c.args.call frame c.if-not-opened.false c.step.ensures.plays)

pub returns-else-has_room-clause-plays : goal.returns-else-has_room-clause-plays
returns-else-has_room-clause-plays c = λ l frame. into_full _ _ (Some (Keeper c.args.call)) frame (sym c.has_room.ensures ∙ c.if-has_room.false)
