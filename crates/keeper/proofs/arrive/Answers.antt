-- `arrive`: each step keeps what is plain. Assumes nothing.
use Rattle.keeper.proofs.arrive.Goals as goal

pub returns-clause-plain : goal.returns-clause-plain
returns-clause-plain c p = c.move_base.ensures.plain (c.add_record.ensures.plain (c.list_lost.ensures.plain p))
