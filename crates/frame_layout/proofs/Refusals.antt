-- Reading and writing give document 01's refusals exactly when their sentences hold, the first that applies (specs/Refusals.antt).
-- Assumes nothing.
use Rattle.std.specs.Prelude.{if◌then◌else◌}
use mathlib.Core.Path.{◌≡◌, refl, sym, ◌∙◌}
use mathlib.Core.Bool.{Bool, true, false, not}
use mathlib.Core.List.{List, [], ◌∷◌}
use mathlib.Core.Logic.{◌⊎◌, inl, inr, ⊎_elim}
use Prim.Native.Nat.{ℕ, ◌+◌, ◌*◌, ◌/◌, ◌%◌, ◌≤◌, ◌<◌}
use native.Mathlib.Omega.{arith}
use borrow.Author.Tests.{ltb-true, ltb-false, lt-ltb, eqb-true, eqb-false}
use lib.Dec.{ltb, eqb}
use lib.ListN.{length, get_or}
use Rattle.basics.specs.Basics.{Outcome, all}
use Rattle.basics.specs.Refusals.{Refusal, ◌when◌, Given, Some}
use Rattle.circle.specs.Lengths.{modulus}
use Rattle.frame_layout.specs.Octets.{field}
use Rattle.frame_layout.specs.Frames.{width, most_highest, data_type, status_type, Range, Reading, listed_in, bad_length, count_refused, count_in, fixed_end, list_end, read_data, read_status, read_type, Written, place, in_form, data_octets, status_octets}
use Rattle.frame_layout.specs.Refusals.{type_of, Listed, Layout, layout_of, OfStatus, BadLength, Reserved, EndsEarly, HighestAbove, BadCount, EndsInList, answered, ReadsGiven, PastForm, DataGiven, StatusesGiven}
use Rattle.basics.proofs.Choices.{contrary, of_choice}
use Rattle.basics.proofs.Refusals.{Says, says_below, says_same, says_or, says_and, says_not, says_as, says_past, says_not_both, says_some, given_of, given_unless}
use Rattle.frame_layout.proofs.Padded.{not_bad_good}
use Rattle.frame_layout.proofs.Forms.{types_below, types_apart}

-- ---- reading: 1

-- the lengths that the reader refuses are those of the table
length_says : (s : List ℕ) → Says (bad_length (length s)) (BadLength s)
length_says s =
    let n : ℕ = length s in
    let phase : Says (not (eqb (n % 4) 2)) ((k : ℕ) → n + 2 ≡ 4 * k → ⊥)
    = says_as (says_not (says_same (n % 4) 2)) (λ none k e. none (omega arith)) (λ none e. none ((n + 2) / 4) (omega arith)) in
    says_or (says_below n 6) (says_or (says_below 1018 n) phase)

-- ---- reading: the refusals from each number on

abbrev pub from6 : List ℕ → List Refusal
from6 s = (6 when EndsInList s) ∷ []

abbrev pub from5 : List ℕ → List Refusal
from5 s = (5 when BadCount s) ∷ from6 s

abbrev pub from4 : List ℕ → List Refusal
from4 s = (4 when HighestAbove s) ∷ from5 s

abbrev pub from3 : List ℕ → List Refusal
from3 s = (3 when EndsEarly s) ∷ from4 s

abbrev pub from2 : List ℕ → List Refusal
from2 s = (2 when Reserved s) ∷ from3 s

-- ---- reading, of a data frame: none of 2 to 6

-- a frame of type 0 or 3 is no status
data_no_status : {S T : Type 0} (long : Bool) (s : List ℕ) → type_of s ≡ data_type long → ((type_of s ≡ 1) × S) ⊎ ((type_of s ≡ 2) × T) → ⊥
data_no_status long s t = ⊎_elim (λ h. types_apart false long (sym h.0 ∙ t)) (λ h. types_apart true long (sym h.0 ∙ t))

-- it doesn't end before its number
data_not_early : (long : Bool) (s : List ℕ) → 6 ≤ length s → type_of s ≡ data_type long → EndsEarly s → ⊥
data_not_early long s h t = ⊎_elim (λ a. omega (arith, h, a.1)) (⊎_elim (λ a. omega (arith, h, a.1)) (data_no_status long s t))

-- it is read
data_read_given : (long : Bool) (s : List ℕ) → 6 ≤ length s → type_of s ≡ data_type long → Given (from2 s) (answered (read_data long s))
data_read_given long s h t =
    let known : Reserved s → ⊥ = λ r. omega (arith, r, t, (types_below long).0) in
    inr (known, inr (data_not_early long s h t, inr (data_no_status long s t, inr (data_no_status long s t, inr (data_no_status long s t, refl)))))

-- ---- reading, of a status: 3 to 6

-- what is said of a status of type 1
of_one : {S T : Type 0} {b : Bool} (s : List ℕ) → type_of s ≡ 1 → Says b S → Says b (((type_of s ≡ 1) × S) ⊎ ((type_of s ≡ 2) × T))
of_one s t p = says_as p (λ h. inl (t, h)) (⊎_elim (λ a. a.1) (λ a. absurd (omega (arith, t, a.0))))

-- of type 2
of_two : {S T : Type 0} {b : Bool} (s : List ℕ) → type_of s ≡ 2 → Says b T → Says b (((type_of s ≡ 1) × S) ⊎ ((type_of s ≡ 2) × T))
of_two s t p = says_as p (λ h. inr (t, h)) (⊎_elim (λ a. absurd (omega (arith, t, a.0))) (λ a. a.1))

-- whether there is a list
listed_says : (s : List ℕ) → Says (listed_in s) (Listed s)
listed_says s = says_same (get_or s 0 0 % 2) 1

-- 3, of n octets: the fixed fields end at full where a flag b says that there is a list, else at bare
early_by : {L : Type 0} (n bare full : ℕ) (b : Bool) → Says b L → bare ≤ full → Says (ltb n (if b then full else bare)) ((n < bare) ⊎ (L × (n < full)))
early_by n bare full true l h = record {
  there = λ e. inr (l.there refl, ltb-true n full e);
  back = ⊎_elim (λ a. lt-ltb n full (omega arith)) (λ a. lt-ltb n full a.1);
}
early_by n bare full false l h = record {
  there = λ e. inl (ltb-true n bare e);
  back = ⊎_elim (lt-ltb n bare) (λ a. absurd (contrary (l.back a.0) refl));
}

-- of a status
early_status : (long : Bool) (s : List ℕ) → type_of s ≡ status_type long
    → Says (ltb (length s) (fixed_end s (width long))) (OfStatus s (λ (y : Layout). (length s < y.bare) ⊎ (Listed s × (length s < y.listed 0))))
early_status false s t = of_one s t (early_by (length s) 11 12 (listed_in s) (listed_says s) (omega arith))
early_status true s t = of_two s t (early_by (length s) 12 13 (listed_in s) (listed_says s) (omega arith))

-- of octets of its type
pub early_says : (long : Bool) (s : List ℕ) → type_of s ≡ status_type long → Says (ltb (length s) (fixed_end s (width long))) (EndsEarly s)
early_says long s t =
    let no-data : (k : Bool) → type_of s ≡ data_type k → ⊥ = λ k e. types_apart long k (sym t ∙ e) in
    says_as (early_status long s t) (λ h. inr (inr h)) (⊎_elim (λ a. absurd (no-data false a.0)) (⊎_elim (λ a. absurd (no-data true a.0)) (λ h. h)))

-- 4
pub highest_says : (long : Bool) (s : List ℕ) → type_of s ≡ status_type long → Says (ltb (most_highest long) (field s 1 (width long))) (HighestAbove s)
highest_says false s t = of_one s t (says_below 32767 (field s 1 2))
highest_says true s t = of_two s t (says_below 262143 (field s 1 3))

-- 5, of the count x
count_by : {L : Type 0} (x : ℕ) (b : Bool) → Says b L → Says (count_refused b (if b then x else 0)) (L × ((x ≡ 0) ⊎ (162 < x)))
count_by x true l = says_and l (says_or (says_same x 0) (says_below 162 x))
count_by x false l = record { there = λ e. absurd (contrary e refl); back = λ a. l.back a.0 }

-- of octets of a status's type
pub count_says : (long : Bool) (s : List ℕ) → type_of s ≡ status_type long → Says (count_refused (listed_in s) (count_in s (width long))) (BadCount s)
count_says false s t = of_one s t (count_by (get_or s 11 0) (listed_in s) (listed_says s))
count_says true s t = of_two s t (count_by (get_or s 12 0) (listed_in s) (listed_says s))

-- 6, where 3 isn't given: x ranges of each octets end at end
list_by : {L : Type 0} (n bare full x each end : ℕ) (b : Bool) → Says b L → full + x * each ≡ end → ltb n (if b then full else bare) ≡ false
    → Says (ltb n ((if b then full else bare) + (if b then x else 0) * each)) (L × (n < end))
list_by n bare full x each end true l same e =
    says_as (says_and {a = true} l (says_below n (full + x * each))) (λ h. (h.0, omega (arith, same, h.1))) (λ h. (h.0, omega (arith, same, h.1)))
list_by n bare full x each end false l same e = record {
  there = λ h. absurd (omega (arith, ltb-false n bare e, ltb-true n (bare + 0 * each) h));
  back = λ a. absurd (contrary (l.back a.0) refl);
}

-- of octets of a status's type
pub list_says : (long : Bool) (s : List ℕ) → type_of s ≡ status_type long → ltb (length s) (fixed_end s (width long)) ≡ false
    → Says (ltb (length s) (list_end s (width long))) (EndsInList s)
list_says false s t e = of_one s t (list_by (length s) 11 12 (get_or s 11 0) 4 (12 + 4 * get_or s 11 0) (listed_in s) (listed_says s) (omega arith) e)
list_says true s t e = of_two s t (list_by (length s) 12 13 (get_or s 12 0) 6 (13 + 6 * get_or s 12 0) (listed_in s) (listed_says s) (omega arith) e)

-- a status is refused with the first of 3 to 6 that applies, or read
status_given : (long : Bool) (s : List ℕ) → type_of s ≡ status_type long → Given (from3 s) (answered (read_status long s))
status_given long s t =
    given_of answered _ 3 (from4 s) _ _ (early_says long s t) refl λ e.
    given_of answered _ 4 (from5 s) _ _ (highest_says long s t) refl λ _.
    given_of answered _ 5 (from6 s) _ _ (count_says long s t) refl λ _.
    given_of answered _ 6 [] _ _ (list_says long s t e) refl λ _. refl

-- and 2 isn't given
pub status_read_given : (long : Bool) (s : List ℕ) → type_of s ≡ status_type long → Given (from2 s) (answered (read_status long s))
status_read_given long s t =
    let known : Reserved s → ⊥ = λ r. omega (arith, r, t, (types_below long).1) in
    inr (known, status_given long s t)

-- ---- reading

-- by the type
type_given : (s : List ℕ) → 6 ≤ length s → Given (from2 s) (answered (read_type (type_of s) s))
type_given s h =
    let P : Reading → Type 0 = λ r. Given (from2 s) (answered r) in
    let t : ℕ = type_of s in
    of_choice P (eqb t 0) _ _ (λ e. data_read_given false s h (eqb-true t 0 e)) λ e0.
    of_choice P (eqb t 1) _ _ (λ e. status_read_given false s (eqb-true t 1 e)) λ e1.
    of_choice P (eqb t 2) _ _ (λ e. status_read_given true s (eqb-true t 2 e)) λ e2.
    of_choice P (eqb t 3) _ _ (λ e. data_read_given true s h (eqb-true t 3 e)) λ e3.
    inl (omega (arith, eqb-false t 0 e0, eqb-false t 1 e1, eqb-false t 2 e2, eqb-false t 3 e3), refl)

-- any octets at all
pub reads_given : ReadsGiven
reads_given s = given_of answered _ 1 (from2 s) _ _ (length_says s) refl λ e. type_given s (not_bad_good (length s) e).least

-- ---- writing

-- what a writer answers
abbrev answer_of_written : Written → Outcome ℕ
answer_of_written w = w.answer

-- a range that isn't of the form is past it
past_says : (long : Bool) (r : Range) → Says (not (in_form long r)) (PastForm long r)
past_says long r =
    let M : ℕ = modulus long in
    says_not_both (ltb r.start M) (ltb r.end M) (says_past r.start M) (says_past r.end M)

-- the document's figure for highest PDCP is the writer's
most_says : (long : Bool) (n : ℕ) → Says (ltb (most_highest long) n) ((layout_of long).most < n)
most_says false n = says_below 32767 n
most_says true n = says_below 262143 n

-- at the end of both orders
abbrev from20 : List ℕ → List ℕ → List Refusal
from20 frame d = (20 when length d < length frame) ∷ []

-- a frame is placed in a buffer, or 20
place_given : (frame d : List ℕ) → Given (from20 frame d) (place frame d).answer
place_given frame d = given_of answer_of_written _ 20 [] _ _ (says_below (length d) (length frame)) refl λ _. refl

-- any number and any buffer
pub data_given : DataGiven
data_given long n d =
    let frame : List ℕ = data_octets long n in
    given_unless answer_of_written (ltb n (modulus long)) 10 (from20 frame d) _ _ (says_past n (modulus long)) refl λ _. place_given frame d

-- any status and any buffer
pub statuses_given : StatusesGiven
statuses_given s d =
    let frame : List ℕ = status_octets s in
    let from10 : List Refusal = (10 when Some (PastForm s.long) s.ranges) ∷ from20 frame d in
    let past = says_some (in_form s.long) (past_says s.long) s.ranges in
    given_of answer_of_written _ 4 ((5 when 162 < length s.ranges) ∷ from10) _ _ (most_says s.long s.highest) refl λ _.
    given_of answer_of_written _ 5 from10 _ _ (says_below 162 (length s.ranges)) refl λ _.
    given_unless answer_of_written (all (in_form s.long) s.ranges) 10 (from20 frame d) _ _ past refl λ _. place_given frame d
