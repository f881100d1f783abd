-- `Range.put`: the start, and the end behind a dash. Assumes nothing.
use Rattle.replay_parts.proofs.Putting.{puts_parts, puts_then}
use Rattle.replay_states.proofs.RangeListed.put.Goals as goal

pub returns : goal.returns
returns c = puts_then (puts_parts c.put_behind.ensures) (puts_parts c.put_behind-2.ensures)
