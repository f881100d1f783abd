-- How long a status is before its padding.
-- Assumes nothing.
use Rattle.std.proofs.Common.{◌≡◌, ◌∙◌, ℕ, ◌+◌, Bool, List, [], ◌∷◌, length, length-append, refl, arith}
use Rattle.frame_layout.specs.Frames.{Range, Status, width, list_octets, range_octets, status_fields}
use Rattle.frame_layout.proofs.Octets.{length_octets, length_range_octets}
use Rattle.frame_writer.specs.Lengths.{status_length}

-- a status's fields: the fixed ones, and the list
pub length_fields : (s : Status) → length (status_fields s) ≡ 9 + width s.long + length (list_octets (width s.long) s.ranges)
length_fields s = simp (length-append, length_octets) (omega arith)

-- a list is one octet longer than its ranges
pub length_list : (w : ℕ) (rs : List Range) → (length rs ≡ 0 → ⊥) → length (list_octets w rs) ≡ 1 + length (range_octets w rs)
length_list w [] some = absurd (some refl)
length_list w (r ∷ rs) some = omega arith

with_list : (long : Bool) (rs : List Range) → 9 + width long + length (list_octets (width long) rs) ≡ status_length long (length rs)
with_list long [] = omega arith
with_list long (r ∷ rs) = omega (arith, length_range_octets (width long) (r ∷ rs))

-- they are as long as said
pub length_status : (s : Status) → length (status_fields s) ≡ status_length s.long (length s.ranges)
length_status s = length_fields s ∙ with_list s.long s.ranges
