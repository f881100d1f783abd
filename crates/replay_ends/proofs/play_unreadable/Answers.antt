-- `play_unreadable`: the line alone. Assumes nothing.
use Rattle.std.proofs.Common.{refl}
use Rattle.std.specs.Prelude.{None}
use Rattle.replay_ends.proofs.Steps.{into_same}
use Rattle.replay_ends.proofs.play_unreadable.Goals as goal

pub returns : goal.returns
returns c = λ e frame. into_same e None frame refl c.lay_answer.ensures
