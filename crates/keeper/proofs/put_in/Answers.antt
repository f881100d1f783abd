-- `put_in`: among the numbers held the new one stands at its place; past them nothing counts. Assumes nothing.
use Rattle.std.proofs.Common.{arith}
use Rattle.keeper.proofs.Parts.{put_in}
use Rattle.keeper.proofs.put_in.Goals as goal

pub returns : goal.returns
returns c = let a = c.args in put_in a.a.now c.insert.new.a a.held a.place a.v c.requires.0 (omega arith) c.insert.ensures
