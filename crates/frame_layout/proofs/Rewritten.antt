-- The octets of a frame that was read are those that it was read from, up to the last field and but for the spare bits; and whole, where they
-- are canonical.
-- Assumes nothing.
use Rattle.std.specs.Prelude.{if◌then◌else◌}
use mathlib.Core.Path.{◌≡◌, refl, sym, ◌∙◌, ap, ap₂, subst}
use mathlib.Core.Bool.{Bool, true, false}
use mathlib.Core.List.{List, [], ◌∷◌, ◌++◌}
use Prim.Native.Nat.{ℕ, zero, suc, ◌+◌, ◌*◌, ◌/◌, ◌%◌, ◌≤◌, ◌<◌}
use native.Mathlib.Omega.{arith}
use native.Mathlib.Nat.{div-div-eq-div-mul}
use borrow.Author.Tests.{eqb-false}
use lib.Dec.{ltb, eqb}
use lib.ListN.{length, get_or, take, drop}
use lib.Seq.{drop-cons}
use Rattle.basics.specs.Basics.{bit, some_in}
use Rattle.frame_layout.specs.Octets.{octets, field}
use Rattle.frame_layout.specs.Frames.{width, data_type, status_type, most_ranges, Range, first_octet, padded, range_octets, list_octets, type_in, final_in, listed_in, count_refused, ranges_at, desired_at, minimum_at, count_at, list_at, count_in, list_end, status_in}
use Rattle.frame_layout.specs.Trips.{AreOctets, Frame, data_frame, status_frame, frame_octets, spare_in, before_padding, Canonical, cleared}
use Rattle.basics.proofs.Choices.{or_false}
use Rattle.frame_layout.proofs.Forms.{width_within, fixed_end_lem, before_data, before_status}
use Rattle.frame_layout.proofs.Octets.{octets_field, length_ranges_at, range_octets_ranges_at, parts_join}
use Rattle.frame_layout.proofs.Padded.{padded_front}
use Rattle.frame_layout.proofs.First.{first_again}
use Rattle.frame_layout.proofs.Read.{Fits, Read, as_data, as_status}

-- the part of s that is the octet at i
one_part : (s : List ℕ) (i : ℕ) → i < length s → get_or s i 0 ∷ [] ≡ take 1 (drop i s)
one_part s i h = ap (take 1) (sym (drop-cons s i 0 h))

-- a list is its count, if it has a range, and its ranges
list_parts : (w : ℕ) (rs : List Range) → list_octets w rs ≡ (if some_in rs then length rs ∷ [] else []) ++ range_octets w rs
list_parts w [] = refl
list_parts w (r ∷ rs) = refl

-- where the count isn't refused, there is a list exactly where there is a range
some_again : (b : Bool) (n x : ℕ) → (if b then x else 0) ≡ n → count_refused b n ≡ false → (rs : List Range) → length rs ≡ n → some_in rs ≡ b
some_again false n x c h [] l = refl
some_again false n x c h (r ∷ rs) l = absurd (let no : ⊥ = omega arith in no)
some_again true n x c h [] l = absurd (eqb-false n 0 (or_false (eqb n 0) (ltb most_ranges n) h).0 (sym l))
some_again true n x c h (r ∷ rs) l = refl

-- the parts of s, from its front on
module _ (s : List ℕ) (o : AreOctets s) (w : ℕ) where
  -- the first octet and the first field
  head_again : 1 + w ≤ length s → get_or s 0 0 ∷ octets w (field s 1 w) ≡ take (1 + w) s
  head_again h = ap₂ ◌++◌ (one_part s 0 (omega arith)) (octets_field s 1 w o h) ∙ parts_join s 0 1 1 w refl

  -- the fixed fields of a status
  fixed_again : 9 + w ≤ length s
      → get_or s 0 0 ∷ octets w (field s 1 w) ++ octets 4 (field s (desired_at w) 4) ++ octets 4 (field s (minimum_at w) 4) ≡ take (9 + w) s
  fixed_again h =
      let desired : octets 4 (field s (desired_at w) 4) ≡ take 4 (drop (desired_at w) s) = octets_field s (desired_at w) 4 o (omega arith) in
      let minimum : octets 4 (field s (minimum_at w) 4) ≡ take 4 (drop (minimum_at w) s) = octets_field s (minimum_at w) 4 o (omega arith) in
      let all : 1 + w + 4 + 4 ≡ 9 + w = omega arith in
      ap₂ ◌++◌ (ap₂ ◌++◌ (head_again (omega arith)) desired ∙ parts_join s 0 (1 + w) (desired_at w) 4 (omega arith)) minimum
      ∙ parts_join s 0 (1 + w + 4) (minimum_at w) 4 (omega arith)
      ∙ ap (λ (k : ℕ). take k s) all

  -- the list behind them
  list_again : (b : Bool) (n : ℕ) → (if b then get_or s (count_at w) 0 else 0) ≡ n → some_in (ranges_at s w (list_at w) n) ≡ b
      → 9 + w + bit b + n * (2 * w) ≤ length s → list_octets w (ranges_at s w (list_at w) n) ≡ take (bit b + n * (2 * w)) (drop (count_at w) s)
  list_again false n c e h =
      let none : 0 ≡ 0 + 0 * (2 * w) = omega arith in
      subst (λ (k : ℕ). list_octets w (ranges_at s w (list_at w) k) ≡ take (0 + k * (2 * w)) (drop (count_at w) s)) c (ap (λ (k : ℕ). take k (drop (count_at w) s)) none)
  list_again true n c e h =
      let count : length (ranges_at s w (list_at w) n) ≡ get_or s (count_at w) 0 = length_ranges_at s w (list_at w) n ∙ sym c in
      let counted = ap₂ (λ (b : Bool) (k : ℕ). if b then k ∷ [] else []) e count ∙ one_part s (count_at w) (omega arith) in
      list_parts w (ranges_at s w (list_at w) n)
      ∙ ap₂ ◌++◌ counted (range_octets_ranges_at s w (list_at w) n o (omega arith))
      ∙ parts_join s (count_at w) 1 (list_at w) (n * (2 * w)) (omega arith)

-- ---- the octets of what was read, with the spare bits set to zero

-- the frame's octets are these, up to its last field, padded
abbrev pub Laid : List ℕ → Frame → Type 0
Laid s f = frame_octets f ≡ padded (take (before_padding f) (cleared f s))

-- the first n of them
take_cleared : (f : Frame) (n : ℕ) (s : List ℕ) → take n (cleared f s) ≡ cleared f (take n s)
take_cleared f zero s = refl
take_cleared f (suc n) [] = refl
take_cleared f (suc n) (x ∷ s) = refl

-- a data frame
data_laid : (long : Bool) (s : List ℕ) → AreOctets s → 6 ≤ length s → type_in s ≡ data_type long → Laid s (data_frame long (field s 1 (width long)))
data_laid long s o h t =
    let w : ℕ = width long in
    let f : Frame = data_frame long (field s 1 w) in
    let fields : ℕ → List ℕ = λ x. x ∷ octets w (field s 1 w) in
    let first : first_octet (data_type long) false false ≡ get_or s 0 0 / 16 * 16 = omega arith in
    let front : fields (get_or s 0 0) ≡ take (before_padding f) s
    = head_again s o w (omega (arith, width_within long)) ∙ ap (λ (k : ℕ). take k s) (sym (before_data long (field s 1 w))) in
    ap padded (ap fields first ∙ ap (cleared f) front ∙ sym (take_cleared f (before_padding f) s))

-- where a status was read there is a list exactly where there is a range
some_read : (long : Bool) (s : List ℕ) → Fits long s → some_in (status_in long s).ranges ≡ listed_in s
some_read long s fits =
    let w : ℕ = width long in
    let n : ℕ = count_in s w in
    some_again (listed_in s) n (get_or s (count_at w) 0) refl fits.count_in_lem (ranges_at s w (list_at w) n) (length_ranges_at s w (list_at w) n)

-- its fields end where the list was read to end
status_end : (long : Bool) (s : List ℕ) → Fits long s → before_padding (status_frame (status_in long s)) ≡ list_end s (width long)
status_end long s fits =
    let w : ℕ = width long in
    let n : ℕ = count_in s w in
    let read : before_padding (status_frame (status_in long s)) ≡ 9 + w + bit (listed_in s) + n * (2 * w)
    = before_status (status_in long s) ∙ ap₂ (λ (b : Bool) (k : ℕ). 9 + w + bit b + k * (2 * w)) (some_read long s fits) (length_ranges_at s w (list_at w) n) in
    omega (arith, read, fixed_end_lem (listed_in s) w)

-- a status
status_laid : (long : Bool) (s : List ℕ) → AreOctets s → type_in s ≡ status_type long → Fits long s → Laid s (status_frame (status_in long s))
status_laid long s o t fits =
    let w : ℕ = width long in
    let f : Frame = status_frame (status_in long s) in
    let n : ℕ = count_in s w in
    let rs : List Range = ranges_at s w (list_at w) n in
    let fields : ℕ → List ℕ = λ x. x ∷ octets w (field s 1 w) ++ octets 4 (field s (desired_at w) 4) ++ octets 4 (field s (minimum_at w) 4) ++ list_octets w rs in
    let some : some_in rs ≡ listed_in s = some_read long s fits in
    let first : first_octet (status_type long) (final_in s) (some_in rs) ≡ get_or s 0 0 / 16 * 16 + get_or s 0 0 % 4
    = ap₂ (λ (k : ℕ) (b : Bool). first_octet k (final_in s) b) (sym t) some ∙ first_again (get_or s 0 0) in
    let end : 9 + w + (bit (listed_in s) + n * (2 * w)) ≡ before_padding f = omega (arith, fixed_end_lem (listed_in s) w, status_end long s fits) in
    let inside : before_padding f ≤ length s = omega (arith, status_end long s fits, fits.list_in) in
    let fixed = fixed_again s o w (omega (arith, end, inside)) in
    let list = list_again s o w (listed_in s) n refl some (omega (arith, end, inside)) in
    let front : fields (get_or s 0 0) ≡ take (before_padding f) s
    = ap₂ ◌++◌ fixed list ∙ parts_join s 0 (9 + w) (count_at w) (bit (listed_in s) + n * (2 * w)) (omega arith) ∙ ap (λ (k : ℕ). take k s) end in
    ap padded (ap fields first ∙ ap (cleared f) front ∙ sym (take_cleared f (before_padding f) s))

-- any frame
pub frame_laid : (s : List ℕ) → AreOctets s → 6 ≤ length s → (f : Frame) → Read s f → Laid s f
frame_laid s o h f (as_data long t) = data_laid long s o h t
frame_laid s o h f (as_status long t fits) = status_laid long s o t fits

-- ---- where they are canonical

-- spare bits that are zero
cleared_same : (f : Frame) (s : List ℕ) → spare_in f s ≡ 0 → cleared f s ≡ s
cleared_same f [] e = refl
cleared_same (data_frame long n) (x ∷ s) e = ap (λ (y : ℕ). y ∷ s) (omega arith)
cleared_same (status_frame t) (x ∷ s) e = ap (λ (y : ℕ). y ∷ s) (omega (arith, div-div-eq-div-mul x 4 4))

-- the last field lies inside
fields_inside : (s : List ℕ) → 6 ≤ length s → (f : Frame) → Read s f → before_padding f ≤ length s
fields_inside s h f (as_data long t) = omega (arith, before_data long (field s 1 (width long)), width_within long)
fields_inside s h f (as_status long t fits) = omega (arith, status_end long s fits, fits.list_in)

-- they are the octets that the frame was read from
pub frame_again : (s : List ℕ) → AreOctets s → 6 ≤ length s → (f : Frame) → Read s f → Canonical f s → frame_octets f ≡ s
frame_again s o h f r c =
    let end : ℕ = before_padding f in
    let same : take end (cleared f s) ≡ take end s = ap (take end) (cleared_same f s c.spare) in
    frame_laid s o h f r ∙ padded_front s (take end (cleared f s)) end (fields_inside s h f r) same c.rest
