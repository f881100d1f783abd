-- `Point::given_up`: what is told so far, with the gaps that are left, is what all gaps tell. Assumes nothing.
use Rattle.std.proofs.Common.{◌≡◌, ◌+◌, List, length}
use Rattle.circle.specs.Lengths.{modulus}
use Rattle.bearer.specs.Losses.{Gap, offsets, gaps, size_of}
use Rattle.keeper_loss.specs.Tally.{gaps_left, first_from}
use Rattle.keeper_loss.proofs.Point.given_up.Given as goal

abbrev pub invariant-loop-gap : goal.invariant-loop-gap
invariant-loop-gap l =
    let all : List Gap = gaps 0 l.limit (offsets (modulus l.fn.self.long) l.fn.self.at l.numbers) in
    let left : List Gap = gaps_left l.gap-iterator in
    record {
      gaps : l.sum.gaps + length left ≡ length all;
      numbers : l.sum.numbers + size_of left ≡ size_of all;
      first : l.sum.first ≡ first_from all;
    }
