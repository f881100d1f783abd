-- `accept`: a frame that was read as a status holds its ranges.
-- Assumes nothing.
use Rattle.frame_reader.proofs.Walk.{held_first}
use Rattle.ledger.proofs.Ledger.accept.Goals as goal

pub accept_status-requires : goal.accept_status-requires
accept_status-requires c = held_first c.args.frame.now c.in-Status.head c.in-Status.ensures
