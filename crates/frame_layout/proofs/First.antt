-- The first octet: it says what it was made of, and it is made of what it says but for its spare bits.
-- Assumes nothing.
use mathlib.Core.Path.{◌≡◌, refl, ◌∙◌, ap}
use mathlib.Core.Bool.{Bool, true, false}
use Prim.Native.Nat.{ℕ, zero, suc, ◌+◌, ◌*◌, ◌/◌, ◌%◌, ◌<◌}
use native.Mathlib.Omega.{arith}
use native.Mathlib.Nat.{div-div-eq-div-mul}
use lib.Dec.{eqb}
use Rattle.basics.specs.Basics.{bit}
use Rattle.frame_layout.specs.Frames.{first_octet}

-- a bit is 0 or 1
pub bit_below : (b : Bool) → bit b < 2
bit_below false = omega arith
bit_below true = omega arith

-- the test of a bit, and the bit of a test
tested : (b : Bool) → eqb (bit b) 1 ≡ b
tested false = refl
tested true = refl

untested : (n : ℕ) → n < 2 → bit (eqb n 1) ≡ n
untested zero h = refl
untested (suc zero) h = refl
untested (suc (suc n)) h = absurd (let no : ⊥ = omega arith in no)

-- it says the type, Final and the list flag that it was made of, its spare bits are zero, and it is an octet
module _ (t : ℕ) (final listed : Bool) where
  pub first_type : first_octet t final listed / 16 ≡ t
  first_type = omega (arith, bit_below final, bit_below listed)

  pub first_final : eqb (first_octet t final listed / 2 % 2) 1 ≡ final
  first_final =
      let same : first_octet t final listed / 2 % 2 ≡ bit final = omega (arith, bit_below final, bit_below listed) in
      ap (λ (n : ℕ). eqb n 1) same ∙ tested final

  pub first_listed : eqb (first_octet t final listed % 2) 1 ≡ listed
  first_listed =
      let same : first_octet t final listed % 2 ≡ bit listed = omega (arith, bit_below final, bit_below listed) in
      ap (λ (n : ℕ). eqb n 1) same ∙ tested listed

  pub first_spare : first_octet t final listed / 4 % 4 ≡ 0
  first_spare = omega (arith, bit_below final, bit_below listed)

  pub first_below : t < 16 → first_octet t final listed < 256
  first_below h = omega (arith, bit_below final, bit_below listed)

-- made again of what an octet says, it is that octet but for the spare bits
pub first_again : (x : ℕ) → first_octet (x / 16) (eqb (x / 2 % 2) 1) (eqb (x % 2) 1) ≡ x / 16 * 16 + x % 4
first_again x = omega (arith, untested (x / 2 % 2) (omega arith), untested (x % 2) (omega arith), div-div-eq-div-mul x 2 2, div-div-eq-div-mul x 4 4)
