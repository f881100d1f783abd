-- Padding: the fewest octets that take a length to 4k - 2, and what padded fields are.
-- Assumes nothing.
use mathlib.Core.Path.{◌≡◌, sym, ◌∙◌, ap, ap₂}
use mathlib.Core.Bool.{false, not}
use mathlib.Core.List.{List, ◌++◌}
use Prim.Native.Nat.{ℕ, zero, suc, ◌+◌, ◌%◌, ◌≤◌, ◌<◌}
use native.Mathlib.Omega.{arith}
use borrow.Author.Tests.{ltb-false, eqb-true, le-ltb, eq-eqb, not-false}
use lib.Dec.{ltb, eqb}
use lib.ListN.{length, take, drop, replicate, length-append, length-replicate, take-append-drop}
use lib.Seq.{length-take-le, drop-append_seam}
use Rattle.basics.specs.Basics.{◌or◌}
use Rattle.frame_layout.specs.Frames.{least_octets, most_octets, padding, padded, bad_length}
use Rattle.frame_layout.specs.Trips.{AreOctets, GoodLength, Fewest}
use Rattle.basics.proofs.Choices.{or_false}
use Rattle.frame_layout.proofs.Octets.{none_are, cons_are, append_are}

-- padding is below 4, takes a length to 4k - 2, and is the least that does
pub padding_least : (n : ℕ) → (padding n < 4) × ((n + padding n) % 4 ≡ 2) × ((p : ℕ) → (n + p) % 4 ≡ 2 → padding n ≤ p)
padding_least n = omega arith

-- ---- lengths

-- a length that a frame can have is none that the reader refuses
pub good_not_bad : (n : ℕ) → GoodLength n → bad_length n ≡ false
good_not_bad n g = simp (le-ltb n least_octets g.least, le-ltb most_octets n g.most, eq-eqb (n % 4) 2 g.phase)

-- and all others the reader refuses
pub not_bad_good : (n : ℕ) → bad_length n ≡ false → GoodLength n
not_bad_good n e =
    let a = or_false (ltb n least_octets) (ltb most_octets n or not (eqb (n % 4) 2)) e in
    let b = or_false (ltb most_octets n) (not (eqb (n % 4) 2)) a.1 in
    record { least = ltb-false n least_octets a.0; most = ltb-false most_octets n b.0; phase = eqb-true (n % 4) 2 (not-false (eqb (n % 4) 2) b.1) }

-- ---- padded fields

pub length_padded : (fields : List ℕ) → length (padded fields) ≡ length fields + padding (length fields)
length_padded fields = simp (length-append, length-replicate)

-- 3 to 1018 octets are padded to a length that a frame can have
pub padded_good : (fields : List ℕ) → 3 ≤ length fields → length fields ≤ most_octets → GoodLength (length (padded fields))
padded_good fields h k = rw (length_padded fields) (omega arith)

-- and by 3 octets at most
pub padded_fewest : (fields : List ℕ) (n : ℕ) → n ≡ length fields → Fewest n (length (padded fields))
padded_fewest fields n e = rw (length_padded fields) (omega arith)

-- behind the fields stands their padding
pub padded_rest : (fields : List ℕ) (end : ℕ) → end ≡ length fields → drop end (padded fields) ≡ replicate (padding end) 0
padded_rest fields end e = rw e (drop-append_seam fields (replicate (padding (length fields)) 0))

-- fields that are the front of s, where what stands behind them is their padding, are padded to s
pub padded_front : (s fields : List ℕ) (end : ℕ) → end ≤ length s → fields ≡ take end s → drop end s ≡ replicate (padding end) 0 → padded fields ≡ s
padded_front s fields end h e rest =
    let long : length fields ≡ end = ap length e ∙ length-take-le end s h in
    ap₂ (λ (f : List ℕ) (n : ℕ). f ++ replicate (padding n) 0) e long ∙ ap (λ (r : List ℕ). take end s ++ r) (sym rest) ∙ take-append-drop end s

zeros_are : (n : ℕ) → AreOctets (replicate n 0)
zeros_are zero = none_are
zeros_are (suc n) = cons_are (omega arith) (zeros_are n)

-- padded octets are octets
pub padded_are : {fields : List ℕ} → AreOctets fields → AreOctets (padded fields)
padded_are {fields} a = append_are a (zeros_are (padding (length fields)))
