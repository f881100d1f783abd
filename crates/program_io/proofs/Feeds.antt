-- Line feeds are counted one by one.
-- Assumes nothing.
use Rattle.std.proofs.Common.{◌≤◌, Bool, true, false, arith}
use Rattle.basics.specs.Basics.{bit}

-- an octet is one line feed at most
pub bit_most : (b : Bool) → bit b ≤ 1
bit_most true = omega arith
bit_most false = omega arith
