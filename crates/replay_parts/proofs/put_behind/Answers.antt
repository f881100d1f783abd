-- `put_behind`: the mark, and the number, which has at most ten digits in 32 bits. Assumes nothing.
use Rattle.std.proofs.Common.{arith}
use Rattle.lister_text.proofs.Decimal.{decimal_most}
use Rattle.replay_parts.proofs.Putting.{parts_one, parts_first}
use Rattle.replay_parts.proofs.put_behind.Goals as goal

pub returns : goal.returns
returns c = parts_first c.octet.ensures (parts_one (decimal_most 9 c.args.n (omega arith)) c.decimal.ensures)
