-- The octets of a frame that can be written: their number, that they are octets, that they are canonical, and that a reader
-- finds in them what the frame says.
-- Assumes nothing.
use Rattle.std.specs.Prelude.{if◌then◌else◌}
use mathlib.Core.Path.{◌≡◌, refl, sym, ◌∙◌, ap, ap₂}
use mathlib.Core.Bool.{Bool, true, false}
use mathlib.Core.List.{List, [], ◌∷◌, ◌++◌, append_assoc}
use Prim.Native.Nat.{ℕ, suc, ◌+◌, ◌*◌, ◌≤◌, ◌<◌}
use native.Mathlib.Omega.{arith}
use borrow.Author.Tests.{le-ltb, ne_eqb}
use lib.ListN.{length, get_or, replicate, length-append}
use lib.Seq.{get_or_at}
use Rattle.basics.specs.Basics.{bit, all, some_in}
use Rattle.frame_layout.specs.Octets.{octets, field}
use Rattle.frame_layout.specs.Frames.{width, data_type, status_type, most_ranges, Range, Status, first_octet, padding, data_octets, range_octets, list_octets, status_octets, data_of, status_of, refuse, type_in, listed_in, count_refused, ranges_at, desired_at, minimum_at, count_at, list_at, count_in, list_end, status_in, read_data, read_status, read_type, read_frame, in_form}
use Rattle.frame_layout.specs.Trips.{AreOctets, GoodLength, data_frame, status_frame, WritableStatus, before_padding, Fewest, Canonical}
use Rattle.circle.specs.Lengths.{modulus}
use Rattle.frame_layout.proofs.Forms.{width_within, modulus_is, highest_held, types_below, before_data, before_status, fixed_end_lem, ranges_most}
use Rattle.frame_layout.proofs.Octets.{none_are, cons_are, append_are, octets_are, length_octets, field_of, length_range_octets, range_octets_are, ranges_of_lem}
use Rattle.frame_layout.proofs.Padded.{good_not_bad, length_padded, padded_good, padded_fewest, padded_rest, padded_are}
use Rattle.frame_layout.proofs.First.{bit_below, first_type, first_final, first_listed, first_spare, first_below}
use Rattle.frame_layout.proofs.Read.{Fits, fits_read}

-- ---- data frames

module _ (long : Bool) (n : ℕ) where
  abbrev first_data : ℕ
  first_data = first_octet (data_type long) false false

  abbrev numbered : List ℕ
  numbered = first_data ∷ octets (width long) n

  length_numbered : 1 + width long ≡ length numbered
  length_numbered = simp length_octets (omega arith)

  pub data_good : GoodLength (length (data_octets long n))
  data_good = padded_good numbered (omega (arith, length_numbered, width_within long)) (omega (arith, length_numbered, width_within long))

  pub data_fewest : Fewest (before_padding (data_frame long n)) (length (data_octets long n))
  data_fewest = padded_fewest numbered (before_padding (data_frame long n)) (before_data long n ∙ length_numbered)

  pub data_are : AreOctets (data_octets long n)
  data_are = padded_are (cons_are (first_below (data_type long) false false (omega (arith, (types_below long).0))) (octets_are (width long) n))

  pub data_canonical : Canonical (data_frame long n) (data_octets long n)
  data_canonical = record { spare = omega arith; rest = padded_rest numbered (before_padding (data_frame long n)) (before_data long n ∙ length_numbered) }

  number_back : n < modulus long → field (data_octets long n) 1 (width long) ≡ n
  number_back h =
      field_of (data_octets long n) (first_data ∷ []) (replicate (padding (length numbered)) 0) 1 (width long) n refl refl (rw (← (modulus_is long)) h)

data_type_read : (long : Bool) (n : ℕ) → read_frame (data_octets long n) ≡ read_data long (data_octets long n)
data_type_read false n = refl
data_type_read true n = refl

pub data_reads : (long : Bool) (n : ℕ) → n < modulus long → read_frame (data_octets long n) ≡ data_of long n
data_reads long n h = data_type_read long n ∙ ap (data_of long) (number_back long n h)

-- ---- the loss list of a status

length_list_octets : (w : ℕ) (rs : List Range) → length (list_octets w rs) ≡ bit (some_in rs) + length rs * (2 * w)
length_list_octets w [] = omega arith
length_list_octets w (r ∷ rs) = simp length_range_octets (omega arith)

list_octets_are : (w : ℕ) (rs : List Range) → length rs ≤ most_ranges → AreOctets (list_octets w rs)
list_octets_are w [] h = none_are
list_octets_are w (r ∷ rs) h = cons_are (omega arith) (range_octets_are w (r ∷ rs))

-- the count of at most 162 ranges isn't refused
count_fits : (rs : List Range) → length rs ≤ most_ranges → count_refused (some_in rs) (length rs) ≡ false
count_fits [] h = refl
count_fits (r ∷ rs) h = simp (ne_eqb (suc (length rs)) 0 (omega arith), le-ltb most_ranges (suc (length rs)) h)

-- behind the fixed fields p of octets s the count and the ranges are read back
module _ (long : Bool) (s p q : List ℕ) (l : length p ≡ count_at (width long)) where
  count_back : (rs : List Range) → s ≡ p ++ (list_octets (width long) rs ++ q) → (if some_in rs then get_or s (count_at (width long)) 0 else 0) ≡ length rs
  count_back [] e = refl
  count_back (r ∷ rs) e =
      ap (λ (t : List ℕ). get_or t (count_at (width long)) 0) e ∙ get_or_at p (suc (length rs)) (range_octets (width long) (r ∷ rs) ++ q) 0 (count_at (width long)) l

  ranges_back : (rs : List Range) → s ≡ p ++ (list_octets (width long) rs ++ q) → all (in_form long) rs ≡ true
      → ranges_at s (width long) (list_at (width long)) (length rs) ≡ rs
  ranges_back [] e h = refl
  ranges_back (r ∷ rs) e h =
      ranges_of_lem long s (p ++ suc (length rs) ∷ []) q (list_at (width long)) (r ∷ rs) (e ∙ simp append_assoc) (simp length-append (omega arith)) h

-- ---- statuses

status_type_read : (long : Bool) (s : List ℕ) → read_type (status_type long) s ≡ read_status long s
status_type_read false s = refl
status_type_read true s = refl

module _ (s : Status) (h : WritableStatus s) where
  abbrev octs : List ℕ
  octs = status_octets s

  abbrev w : ℕ
  w = width s.long

  abbrev listed : Bool
  listed = some_in s.ranges

  abbrev first : ℕ
  first = first_octet (status_type s.long) s.final listed

  abbrev fixed : List ℕ
  fixed = first ∷ octets w s.highest ++ octets 4 s.desired ++ octets 4 s.minimum

  abbrev list : List ℕ
  list = list_octets w s.ranges

  abbrev pad : List ℕ
  pad = replicate (padding (length (fixed ++ list))) 0

  -- each field is read back

  listed_back : listed_in octs ≡ listed
  listed_back = first_listed (status_type s.long) s.final listed

  highest_back : field octs 1 w ≡ s.highest
  highest_back =
      let rest : List ℕ = octets 4 s.desired ++ octets 4 s.minimum ++ list ++ pad in
      field_of octs (first ∷ []) rest 1 w s.highest (simp append_assoc) refl (highest_held s.long s.highest h.highest_fits)

  desired_back : field octs (desired_at w) 4 ≡ s.desired
  desired_back =
      let front : List ℕ = first ∷ octets w s.highest in
      let behind : length front ≡ desired_at w = simp length_octets (omega arith) in
      field_of octs front (octets 4 s.minimum ++ list ++ pad) (desired_at w) 4 s.desired (simp append_assoc) behind h.desired_fits

  minimum_back : field octs (minimum_at w) 4 ≡ s.minimum
  minimum_back =
      let front : List ℕ = first ∷ octets w s.highest ++ octets 4 s.desired in
      let behind : length front ≡ minimum_at w = simp (length-append, length_octets) (omega arith) in
      field_of octs front (list ++ pad) (minimum_at w) 4 s.minimum (simp append_assoc) behind h.minimum_fits

  length_fixed : length fixed ≡ count_at w
  length_fixed = simp (length-append, length_octets) (omega arith)

  count_in_back : count_in octs w ≡ length s.ranges
  count_in_back =
      ap (λ (b : Bool). if b then get_or octs (count_at w) 0 else 0) listed_back
      ∙ count_back s.long octs fixed pad length_fixed s.ranges (append_assoc fixed list pad)

  ranges_in_back : ranges_at octs w (list_at w) (count_in octs w) ≡ s.ranges
  ranges_in_back =
      ap (ranges_at octs w (list_at w)) count_in_back
      ∙ ranges_back s.long octs fixed pad length_fixed s.ranges (append_assoc fixed list pad) h.ranges_fit

  status_back : status_in s.long octs ≡ s
  status_back = λ i. record {
    long = s.long;
    final = first_final (status_type s.long) s.final listed i;
    highest = highest_back i;
    desired = desired_back i;
    minimum = minimum_back i;
    ranges = ranges_in_back i;
  }

  -- and the list ends where the fields end

  fields_end : length (fixed ++ list) ≡ 9 + w + bit listed + length s.ranges * (2 * w)
  fields_end = simp (length-append, length_octets, length_list_octets) (omega arith)

  before : before_padding (status_frame s) ≡ length (fixed ++ list)
  before = before_status s ∙ sym fields_end

  list_end_back : list_end octs w ≡ length (fixed ++ list)
  list_end_back =
      ap₂ (λ (b : Bool) (n : ℕ). (if b then list_at w else count_at w) + n * (2 * w)) listed_back count_in_back ∙ omega (arith, fixed_end_lem listed w, fields_end)

  pub status_good : GoodLength (length octs)
  status_good =
      let most = ranges_most s.long (length s.ranges) h.ranges_few in
      padded_good (fixed ++ list) (omega (arith, fields_end)) (omega (arith, fields_end, width_within s.long, bit_below listed, most))

  pub status_fewest : Fewest (before_padding (status_frame s)) (length octs)
  status_fewest = padded_fewest (fixed ++ list) (before_padding (status_frame s)) before

  pub status_are : AreOctets octs
  status_are =
      let head = cons_are (first_below (status_type s.long) s.final listed (omega (arith, (types_below s.long).1))) (octets_are w s.highest) in
      padded_are (append_are (append_are (append_are head (octets_are 4 s.desired)) (octets_are 4 s.minimum)) (list_octets_are w s.ranges h.ranges_few))

  pub status_canonical : Canonical (status_frame s) octs
  status_canonical = record {
    spare = first_spare (status_type s.long) s.final listed;
    rest = padded_rest (fixed ++ list) (before_padding (status_frame s)) before;
  }

  status_fits : Fits s.long octs
  status_fits =
      let room : list_end octs w ≤ length octs = omega (arith, list_end_back, length_padded (fixed ++ list)) in
      let count = ap₂ count_refused listed_back count_in_back ∙ count_fits s.ranges h.ranges_few in
      record { fixed_in = omega arith; highest_in = rw highest_back h.highest_fits; count_in_lem = count; list_in = room }

  pub status_reads : read_frame octs ≡ status_of s
  status_reads =
      ap (λ (b : Bool). if b then refuse 1 else read_type (type_in octs) octs) (good_not_bad (length octs) status_good)
      ∙ ap (λ (t : ℕ). read_type t octs) (first_type (status_type s.long) s.final listed)
      ∙ status_type_read s.long octs
      ∙ fits_read s.long octs status_fits
      ∙ ap status_of status_back
