-- `Point::lowest`: the lowest so far, raised by the numbers that are left, is the lowest of all. Assumes nothing.
use Rattle.std.proofs.Common.{◌≡◌, drop}
use Rattle.circle.specs.Lengths.{modulus}
use Rattle.bearer.specs.Losses.{offsets, lowest}
use Rattle.keeper_loss.proofs.Point.lowest.Given as goal

abbrev pub invariant-loop-n : goal.invariant-loop-n
invariant-loop-n l =
    lowest l.from (offsets (modulus l.self.long) l.self.at l.numbers) ≡ lowest l.low (offsets (modulus l.self.long) l.self.at (drop l.n-index l.numbers))
