-- `Point::list_gaps`: no more gaps than numbers and one. Assumes nothing.
use Rattle.std.proofs.Common.{inl, arith}
use Rattle.std.proofs.Math.ListN.{length-map}
use Rattle.circle.specs.Circle.{forward}
use Rattle.circle.specs.Lengths.{modulus}
use Rattle.bearer.specs.Losses.{offsets}
use Rattle.keeper_loss.proofs.Bounds.{gaps_count}
use Rattle.keeper_loss.proofs.Point.list_gaps.Goals as goal

pub loop-slot-init-derived : goal.loop-slot-init-derived
loop-slot-init-derived c =
    let a = c.args in
    let few = gaps_count 0 a.limit (offsets (modulus a.self.long) a.self.at a.numbers.now) in
    let all = length-map a.numbers.now (forward (modulus a.self.long) a.self.at) in
    ((tt, tt, inl (rw (c.into_iter-slot-iterator.ensures.into_iter_gives, c.enumerate-slot-items.ensures.source, c.enumerate-slot-items.ensures.count, c.gaps.ensures) (omega (arith, few, all, c.well_formed)))), tt)
