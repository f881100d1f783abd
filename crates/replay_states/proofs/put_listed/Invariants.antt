-- `put_listed`: so many are laid, and the mark of the next is known. Assumes nothing.
use Rattle.std.proofs.Common.{◌*◌, length}
use Rattle.replay_parts.proofs.Joining.{Joins}
use Rattle.replay_states.proofs.put_listed.Given as goal

abbrev pub invariant-loop-item : goal.invariant-loop-item
invariant-loop-item g l = record {
  can : (goal.iterator-loop-item g).can_next l.item-iterator;
  finite : (goal.iterator-loop-item g).is_finite l.item-iterator;
  joins : Joins g.T.Listed.text l.fn.out l.yielded l.mark l.out (length l.yielded * g.T.Listed.most);
}
