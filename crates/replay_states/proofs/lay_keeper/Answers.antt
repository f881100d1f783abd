-- `lay_keeper`: fields and a line feed, where there is room. Assumes nothing.
use Rattle.std.proofs.Common.{sym, ◌∙◌, arith}
use Rattle.replay_states.specs.States.{keeper_listed, keeper_fields}
use Rattle.replay_states.proofs.Saying.{line_laid}
use Rattle.replay_states.proofs.lay_keeper.Goals as goal

pub returns-then-has_room : goal.returns-then-has_room
returns-then-has_room c =
    line_laid (keeper_fields (keeper_listed c.args.held.now)) (omega arith) (sym c.has_room.ensures ∙ c.if-has_room.true) c.put_keeper.ensures c.put_end.ensures
