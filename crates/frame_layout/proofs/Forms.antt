-- What holds of both forms, and of a status with a list and without.
-- Assumes nothing.
use Rattle.std.specs.Prelude.{if◌then◌else◌}
use mathlib.Core.Path.{◌≡◌, refl}
use mathlib.Core.Bool.{Bool, true, false}
use mathlib.Core.List.{List, [], ◌∷◌}
use Prim.Native.Nat.{ℕ, ◌+◌, ◌*◌, ◌^◌, ◌≤◌, ◌<◌}
use native.Mathlib.Omega.{arith}
use lib.ListN.{length}
use Rattle.basics.specs.Basics.{bit, some_in}
use Rattle.frame_layout.specs.Frames.{width, most_highest, data_type, status_type, most_ranges, Range, Status, count_at, list_at}
use Rattle.frame_layout.specs.Refusals.{layout_of}
use Rattle.frame_layout.specs.Trips.{data_frame, status_frame, before_padding}
use Rattle.circle.specs.Lengths.{modulus}

-- a number takes 2 or 3 octets
pub width_within : (long : Bool) → (2 ≤ width long) × (width long ≤ 3)
width_within false = omega arith
width_within true = omega arith

-- X2-U numbers are those that these octets hold
pub modulus_is : (long : Bool) → modulus long ≡ 256 ^ width long
modulus_is false = refl
modulus_is true = refl

-- they hold the highest PDCP number too
pub highest_held : (long : Bool) (n : ℕ) → n ≤ most_highest long → n < 256 ^ width long
highest_held false n h = omega arith
highest_held true n h = omega arith

-- the types in use are 0 to 3
pub types_below : (long : Bool) → (data_type long < 4) × (status_type long < 4)
types_below false = omega arith
types_below true = omega arith

-- a status has another type than data
pub types_apart : (long long' : Bool) → status_type long ≡ data_type long' → ⊥
types_apart false false e = omega arith
types_apart false true e = omega arith
types_apart true false e = omega arith
types_apart true true e = omega arith

-- where the last fixed field of a status ends, the count octet included if there is a list
pub fixed_end_lem : (listed : Bool) (w : ℕ) → (if listed then list_at w else count_at w) ≡ 9 + w + bit listed
fixed_end_lem true w = omega arith
fixed_end_lem false w = omega arith

-- the octets of data before padding
pub before_data : (long : Bool) (n : ℕ) → before_padding (data_frame long n) ≡ 1 + width long
before_data false n = refl
before_data true n = refl

-- of a status
pub before_status : (s : Status) → before_padding (status_frame s) ≡ 9 + width s.long + bit (some_in s.ranges) + length s.ranges * (2 * width s.long)
before_status s = by s.long s.ranges
  where
    by : (long : Bool) (rs : List Range)
        → (if some_in rs then (layout_of long).listed (length rs) else (layout_of long).bare) ≡ 9 + width long + bit (some_in rs) + length rs * (2 * width long)
    by false [] = refl
    by false (r ∷ rs) = omega arith
    by true [] = refl
    by true (r ∷ rs) = omega arith

-- 162 ranges take 972 octets at most
pub ranges_most : (long : Bool) (n : ℕ) → n ≤ most_ranges → n * (2 * width long) ≤ 972
ranges_most false n h = omega arith
ranges_most true n h = omega arith
