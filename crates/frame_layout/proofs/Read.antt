-- When octets are read as a frame: what stands in them then, and that the frame can be written.
-- Assumes nothing.
use Rattle.std.specs.Prelude.{if◌then◌else◌}
use mathlib.Core.Path.{◌≡◌, refl, sym, ◌∙◌, ap, subst}
use mathlib.Core.Bool.{Bool, true, false}
use mathlib.Core.List.{List}
use Prim.Native.Nat.{ℕ, ◌≤◌}
use native.Mathlib.Omega.{arith}
use borrow.Author.Tests.{le-ltb, ltb-false, eqb-true}
use lib.Dec.{ltb, eqb}
use lib.ListN.{length, get_or}
use Rattle.basics.specs.Basics.{is_done}
use Rattle.frame_layout.specs.Octets.{field}
use Rattle.frame_layout.specs.Frames.{width, most_highest, data_type, status_type, most_ranges, Reading, status_of, refuse, type_in, listed_in, bad_length, count_refused, desired_at, minimum_at, count_at, list_at, count_in, fixed_end, list_end, status_in, read_data, read_status, read_type, read_frame}
use Rattle.frame_layout.specs.Refusals.{answered}
use Rattle.frame_layout.specs.Trips.{AreOctets, GoodLength, Frame, data_frame, status_frame, reading_of, Writable}
use Rattle.basics.proofs.Apart.{apart}
use Rattle.basics.proofs.Choices.{or_false, by_choice}
use Rattle.basics.proofs.Refusals.{says_fails, given_none}
use Rattle.frame_layout.proofs.Forms.{modulus_is}
use Rattle.frame_layout.proofs.Octets.{field_below, ranges_at_in_form, length_ranges_at}
use Rattle.frame_layout.proofs.Padded.{not_bad_good}
use Rattle.frame_layout.proofs.Refusals.{from2, early_says, highest_says, count_says, list_says, status_read_given}

-- octets of a status which 3, 4, 5 and 6 don't refuse
pub record Fits (long : Bool) (s : List ℕ) : Type 0 where
  pub fixed_in : fixed_end s (width long) ≤ length s
  pub highest_in : field s 1 (width long) ≤ most_highest long
  pub count_in_lem : count_refused (listed_in s) (count_in s (width long)) ≡ false
  pub list_in : list_end s (width long) ≤ length s

-- they are read as the status in them
pub fits_read : (long : Bool) (s : List ℕ) → Fits long s → read_status long s ≡ status_of (status_in long s)
fits_read long s h =
    let w : ℕ = width long in
    let p3 : ltb (length s) (fixed_end s w) ≡ false = le-ltb (length s) (fixed_end s w) h.fixed_in in
    let p4 : ltb (most_highest long) (field s 1 w) ≡ false = le-ltb (most_highest long) (field s 1 w) h.highest_in in
    let p6 : ltb (length s) (list_end s w) ≡ false = le-ltb (length s) (list_end s w) h.list_in in
    simp (p3, p4, h.count_in_lem, p6)

-- ---- what is read by no refusal

-- a frame is no refusal
no_refusal : (f : Frame) (n : ℕ) → refuse n ≡ reading_of f → ⊥
no_refusal (data_frame long m) n e = apart (cc)
no_refusal (status_frame s) n e = apart (cc)

-- octets that are read as a frame are taken
frame_taken : (f : Frame) → is_done (answered (reading_of f)) ≡ true
frame_taken (data_frame long n) = refl
frame_taken (status_frame s) = refl

-- a status that is taken passes 3 to 6
taken_fits : (long : Bool) (s : List ℕ) → type_in s ≡ status_type long → is_done (answered (read_status long s)) ≡ true → Fits long s
taken_fits long s t taken =
    let none = (given_none (from2 s) (answered (read_status long s)) (status_read_given long s t) taken).1 in
    let fixed : ltb (length s) (fixed_end s (width long)) ≡ false = says_fails (early_says long s t) none.0 in
    record {
      fixed_in = ltb-false _ _ fixed;
      highest_in = ltb-false _ _ (says_fails (highest_says long s t) none.1.0);
      count_in_lem = says_fails (count_says long s t) none.1.1.0;
      list_in = ltb-false _ _ (says_fails (list_says long s t fixed) none.1.1.1.0);
    }

-- frames that are read alike are one
one_frame : (f g : Frame) → reading_of f ≡ reading_of g → f ≡ g
one_frame (data_frame long n) (data_frame long' n') e = cc
one_frame (data_frame long n) (status_frame s) e = cc
one_frame (status_frame s) (data_frame long n) e = cc
one_frame (status_frame s) (status_frame t) e = cc

-- how octets come to be read as a frame
pub data Read (s : List ℕ) : Frame → Type 0 where
  as_data : (long : Bool) → type_in s ≡ data_type long → Read s (data_frame long (field s 1 (width long)))
  as_status : (long : Bool) → type_in s ≡ status_type long → Fits long s → Read s (status_frame (status_in long s))

module _ (s : List ℕ) (f : Frame) where
  data_read : (long : Bool) → type_in s ≡ data_type long → read_data long s ≡ reading_of f → Read s f
  data_read long t e = subst (Read s) (one_frame (data_frame long (field s 1 (width long))) f e) (as_data long t)

  status_read : (long : Bool) → type_in s ≡ status_type long → read_status long s ≡ reading_of f → Read s f
  status_read long t e =
      let fits : Fits long s = taken_fits long s t (ap (λ (r : Reading). is_done (answered r)) e ∙ frame_taken f) in
      subst (Read s) (one_frame (status_frame (status_in long s)) f (sym (fits_read long s fits) ∙ e)) (as_status long t fits)

  type_read : read_type (type_in s) s ≡ reading_of f → Read s f
  type_read =
      by_choice (eqb (type_in s) 0) _ _ _ (λ t. data_read false (eqb-true (type_in s) 0 t)) λ _.
      by_choice (eqb (type_in s) 1) _ _ _ (λ t. status_read false (eqb-true (type_in s) 1 t)) λ _.
      by_choice (eqb (type_in s) 2) _ _ _ (λ t. status_read true (eqb-true (type_in s) 2 t)) λ _.
      by_choice (eqb (type_in s) 3) _ _ _ (λ t. data_read true (eqb-true (type_in s) 3 t)) λ _ e. absurd (no_refusal f 2 e)

-- octets that are read as a frame have a length that a frame can have, and are read by their type
pub frame_read : (s : List ℕ) (f : Frame) → read_frame s ≡ reading_of f → GoodLength (length s) × Read s f
frame_read s f =
    by_choice (bad_length (length s)) (refuse 1) (read_type (type_in s) s) (reading_of f) (λ _ e. absurd (no_refusal f 1 e)) λ good e.
    (not_bad_good (length s) good, type_read s f e)

-- ---- it can be written

-- a count that isn't refused is at most 162
pub few_read : (b : Bool) (n x : ℕ) → (if b then x else 0) ≡ n → count_refused b n ≡ false → n ≤ most_ranges
few_read false n x c h = omega arith
few_read true n x c h = ltb-false most_ranges n (or_false (eqb n 0) (ltb most_ranges n) h).1

-- what was read can be written
pub read_is_writable : (s : List ℕ) → AreOctets s → (f : Frame) → Read s f → Writable f
read_is_writable s o f (as_data long t) = rw (modulus_is long) (field_below s 1 (width long) o)
read_is_writable s o f (as_status long t h) =
    let w : ℕ = width long in record {
      highest_fits = h.highest_in;
      desired_fits = field_below s (desired_at w) 4 o;
      minimum_fits = field_below s (minimum_at w) 4 o;
      ranges_few = rw length_ranges_at (few_read (listed_in s) (count_in s w) (get_or s (count_at w) 0) refl h.count_in_lem);
      ranges_fit = ranges_at_in_form long s (list_at w) (count_in s w) o;
    }
