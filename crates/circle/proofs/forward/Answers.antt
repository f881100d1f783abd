-- The wrapping difference, masked, is the distance on the circle.
use Rattle.std.proofs.Common.{◌≡◌, ◌+◌, ◌-◌, ◌%◌, ◌^◌, min, arith}
use Rattle.circle.proofs.Wrapped.{masked}
use Rattle.circle.proofs.forward.Goals as goal

pub returns-then-bits-lt32 : goal.returns-then-bits-lt32
returns-then-bits-lt32 c =
    let a = c.args in
    let d = (a.b + (4294967296 - a.a)) % 4294967296 in
    let least : min a.bits 32 ≡ a.bits = omega (arith, c.if-bits-lt32.true) in
    let back : (d + a.a) % 2 ^ 32 ≡ a.b = omega (arith, c.ranges.a.fits, c.ranges.b.fits) in
    rw least (masked a.bits a.a a.b d c.if-bits-lt32.true back)
