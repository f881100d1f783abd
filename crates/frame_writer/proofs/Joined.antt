-- A first octet joined by shifts and ors is the layout's, of any type that four bits hold.
-- Assumes nothing.
use mathlib.Core.Path.{◌≡◌, refl}
use mathlib.Core.Bool.{Bool, true, false}
use Prim.Native.Nat.{ℕ, ◌+◌, ◌*◌, ◌%◌, ◌<◌}
use native.Mathlib.Omega.{arith}
use lib.Bits.{bit_or, or_shifted}
use mir.Val.{bool_byte}
use Rattle.basics.specs.Basics.{bit}
use Rattle.frame_layout.specs.Frames.{first_octet}
use Rattle.frame_layout.proofs.First.{bit_below}

-- a flag's octet is its bit
byte_bit : (b : Bool) → bool_byte b ≡ bit b
byte_bit true = refl
byte_bit false = refl

-- shifts and ors put the type, Final and the list flag where the layout has them
pub joined : (t : ℕ) (final listed : Bool) → t < 16
    → bit_or (bit_or (t * 16 % 256) (bool_byte final * 2 % 256)) (bool_byte listed) ≡ first_octet t final listed
joined t final listed h =
    let f = bit final in
    let l = bit listed in
    let below : t * 16 % 256 ≡ t * 16 = omega arith in
    let kept : f * 2 % 256 ≡ f * 2 = omega (arith, bit_below final) in
    let two : bit_or (t * 16) (f * 2) ≡ t * 16 + f * 2 = or_shifted t 4 (f * 2) (omega (arith, bit_below final)) in
    let even : t * 16 + f * 2 ≡ (t * 8 + f) * 2 = omega arith in
    rw (byte_bit final, byte_bit listed, below, kept, two, even) (or_shifted (t * 8 + f) 1 l (bit_below listed))
