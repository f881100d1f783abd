-- Numbers of the two forms, and the length that a word says: bounds that the code's words have.
-- Assumes nothing.
use Rattle.std.specs.Prelude.{if◌then◌else◌}
use Rattle.std.proofs.Common.{◌≡◌, ℕ, ◌+◌, ◌-◌, ◌/◌, ◌%◌, ◌^◌, ◌<◌, ◌≤◌, Bool, true, false, eqb, sym, refl, ◌∙◌, arith, lit<, lit≤, eqb-true}
use lib.Bits.{bit_and, and_mask}
use lib.Pow.{mod-mod-pow}
use Rattle.basics.specs.Basics.{◌or◌}
use Rattle.circle.specs.Circle.{forward, forward_below}
use Rattle.circle.specs.Lengths.{modulus, is_length, length_in, pdcps}

-- a form has some numbers, and no more than 2^24
pub modulus_bounds : (long : Bool) → (0 < modulus long) × (modulus long ≤ 2 ^ 24)
modulus_bounds true = omega arith
modulus_bounds false = omega arith

-- half of them, twice, is all of them
pub halves : (long : Bool) → modulus long / 2 + modulus long / 2 ≡ modulus long
halves true = refl
halves false = refl

-- a distance is a number of the form
pub distance_below : (long : Bool) (a b : ℕ) → forward (modulus long) a b < modulus long
distance_below long a b = forward_below (modulus long) (modulus_bounds long).0 a b

-- a sum that wrapped at 2^32, reduced to the form: whole turns are left out either way
pub reduced : (long : Bool) (n : ℕ) → bit_and (n % 2 ^ 32) (modulus long - 1) ≡ n % modulus long
reduced true n = and_mask (n % 2 ^ 32) 24 ∙ mod-mod-pow n 8 24
reduced false n = and_mask (n % 2 ^ 32) 16 ∙ mod-mod-pow n 16 16

-- ---- L

-- there are some PDCP numbers, and no more than 2^18, whatever the word
pub pdcps_bounds : (x : ℕ) → (0 < pdcps (length_in x)) × (pdcps (length_in x) ≤ 2 ^ 18)
pdcps_bounds x = by (eqb x 12) (eqb x 15)
  where
    by : (a b : Bool) → (0 < pdcps (if a then 12 else (if b then 15 else 18))) × (pdcps (if a then 12 else (if b then 15 else 18)) ≤ 2 ^ 18)
    by true b = (lit< tt, lit≤ tt)
    by false true = (lit< tt, lit≤ tt)
    by false false = (lit< tt, lit≤ tt)

-- a length that is one of document 01's is read as itself
pub length_read : (L : ℕ) → is_length L ≡ true → length_in L ≡ L
length_read L h = by (eqb L 12) (eqb L 15) refl refl h
  where
    by : (a b : Bool) → eqb L 12 ≡ a → eqb L 15 ≡ b → (a or b or eqb L 18) ≡ true → (if a then 12 else (if b then 15 else 18)) ≡ L
    by true b e f h = sym (eqb-true L 12 e)
    by false true e f h = sym (eqb-true L 15 f)
    by false false e f h = sym (eqb-true L 18 h)
