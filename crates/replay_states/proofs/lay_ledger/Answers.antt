-- `lay_ledger`: fields and a line feed, where there is room. Assumes nothing.
use Rattle.std.proofs.Common.{sym, ◌∙◌, arith}
use Rattle.ledger.specs.View.{ledger_in}
use Rattle.replay_states.specs.States.{ledger_fields}
use Rattle.replay_states.proofs.Saying.{line_laid}
use Rattle.replay_states.proofs.lay_ledger.Goals as goal

pub returns-then-has_room : goal.returns-then-has_room
returns-then-has_room c =
    line_laid (ledger_fields (ledger_in c.args.ledger.now)) (omega arith) (sym c.has_room.ensures ∙ c.if-has_room.true) c.put_ledger.ensures c.put_end.ensures
