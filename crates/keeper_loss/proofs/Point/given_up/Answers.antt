-- `Point::given_up`: no more gaps than numbers and one, and no more numbers in them than are below the limit. Assumes nothing.
use Rattle.std.proofs.Common.{ap, arith, length}
use Rattle.std.proofs.Math.ListN.{length-map}
use Rattle.circle.specs.Circle.{forward}
use Rattle.circle.specs.Lengths.{modulus}
use Rattle.bearer.specs.Losses.{offsets, size_of}
use Rattle.keeper_loss.proofs.Bounds.{gaps_count, gaps_size}
use Rattle.keeper_loss.proofs.Point.given_up.Goals as goal

pub overflow_add-sum : goal.overflow_add-sum
overflow_add-sum c =
    let a = c.args in
    omega (arith, gaps_count 0 a.limit (offsets (modulus a.self.long) a.self.at a.numbers.now), length-map a.numbers.now (forward (modulus a.self.long) a.self.at), ap length c.in-Some-gap.ensures.steps, c.well_formed)

pub overflow_add-sum-in-loop-gap : goal.overflow_add-sum-in-loop-gap
overflow_add-sum-in-loop-gap c =
    let a = c.args in
    omega (arith, gaps_size 0 a.limit (offsets (modulus a.self.long) a.self.at a.numbers.now), ap size_of c.in-Some-gap.ensures.steps)
