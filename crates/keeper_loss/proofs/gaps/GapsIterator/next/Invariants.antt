-- `Gaps::next`: a number that leaves no gap leaves the gaps that are left. Assumes nothing.
use Rattle.std.proofs.Common.{◌≡◌, length}
use Rattle.keeper_loss.specs.Tally.{gaps_left}
use Rattle.keeper_loss.proofs.gaps.GapsIterator.next.Given as goal

abbrev pub invariant-loop-self : goal.invariant-loop-self
invariant-loop-self l = gaps_left l.self ≡ gaps_left l.initial.self

abbrev pub decreases-loop-self : goal.decreases-loop-self
decreases-loop-self l = length l.self.numbers.now
