-- No answer is longer than said: 162 ranges of a status are what takes most.
-- Assumes nothing.
use Rattle.std.specs.Prelude.{if◌then◌else◌}
use mathlib.Core.Path.{◌≡◌, refl, ap}
use mathlib.Core.Bool.{Bool, true, false}
use mathlib.Core.List.{List, [], ◌∷◌, ◌++◌}
use Prim.Native.Nat.{ℕ, ◌+◌, ◌*◌, ◌^◌, ◌≤◌, ◌<◌}
use native.Mathlib.Omega.{arith}
use lib.Dec.{ltb, eqb}
use lib.ListN.{length, length-append}
use borrow.Author.Tests.{ltb-true}
use Rattle.basics.specs.Basics.{bit, all}
use Rattle.frame_layout.specs.Octets.{field}
use Rattle.frame_layout.specs.Frames.{width, most_highest, data_type, status_type, Range, Status, Reading, data_of, status_of, refuse, type_in, listed_in, bad_length, count_refused, count_in, fixed_end, list_end, status_in, read_status, read_frame, in_form}
use Rattle.frame_layout.specs.Trips.{AreOctets, data_frame, status_frame, WritableStatus}
use Rattle.circle.specs.Lengths.{modulus}
use Rattle.basics.proofs.Choices.{and_true}
use Rattle.frame_layout.proofs.Read.{frame_read, read_is_writable}
use Rattle.lister_text.specs.Texts.{ascii, tab, line_feed, range_text, ranges_text}
use Rattle.lister_text.specs.Hexadecimal.{unreadable, octets_in}
use Rattle.lister_answers.specs.Answers.{answer_to, line_of, most_text}
use Rattle.lister_answers.specs.Parts.{marked, tabbed}
use Rattle.lister_text.proofs.Decimal.{decimal_most}
use Rattle.lister_text.proofs.Hex.{octets_are}
use Rattle.lister_answers.proofs.Texts.{more_text, ranges_text_lem, data_text, refused_text, status_text}

-- a number of ten digits with a mark
marked_most : (n m : ℕ) → n < 10 ^ 10 → length (marked n m) ≤ 11
marked_most n m h = simp length-append (omega (arith, decimal_most 9 n h))

-- numbers of a form have ten digits and fewer
form_small : (long : Bool) (n : ℕ) → n < modulus long → n < 10 ^ 10
form_small false n h = omega arith
form_small true n h = omega arith

-- ranges of a form
module _ (long : Bool) where
  ends_small : (r : Range) → in_form long r ≡ true → (r.start < 10 ^ 10) × (r.end < 10 ^ 10)
  ends_small r h =
      let p = and_true (ltb r.start (modulus long)) (ltb r.end (modulus long)) h in
      (form_small long r.start (ltb-true _ _ p.0), form_small long r.end (ltb-true _ _ p.1))

  range_most : (r : Range) → in_form long r ≡ true → length (range_text r) ≤ 21
  range_most r h =
      let p = ends_small r h in
      simp length-append (omega (arith, decimal_most 9 r.start p.0, decimal_most 9 r.end p.1))

  more_most : (rs : List Range) → all (in_form long) rs ≡ true → length (more_text rs) ≤ length rs * 22
  more_most [] h = omega arith
  more_most (r ∷ rs) h =
      let p = and_true (in_form long r) (all (in_form long) rs) h in
      omega (arith, length-append (range_text r) (more_text rs), range_most r p.0, more_most rs p.1)

  ranges_most : (rs : List Range) → all (in_form long) rs ≡ true → length (ranges_text rs) ≤ 4 + length rs * 22
  ranges_most [] h = omega arith
  ranges_most (r ∷ rs) h =
      let p = and_true (in_form long r) (all (in_form long) rs) h in
      omega (arith, ap length (ranges_text_lem r rs), length-append (range_text r) (more_text rs), range_most r p.0, more_most rs p.1)

-- a refusal, if it is one, has one digit
record Small (r : Reading) : Type 0 where
  refusal : (n : ℕ) → r ≡ refuse n → n < 10

one_digit : (n : ℕ) → n < 10 → Small (refuse n)
one_digit n h = record { refusal = λ m e. let same : n ≡ m = cc in omega arith }

no_refusal_data : (long : Bool) (n : ℕ) → Small (data_of long n)
no_refusal_data long n = record { refusal = λ m e. let no : ◌≡◌ {A = ℕ} 0 1 = cc in omega arith }

no_refusal_status : (s : Status) → Small (status_of s)
no_refusal_status s = record { refusal = λ m e. let no : ◌≡◌ {A = ℕ} 0 1 = cc in omega arith }

choose : (b : Bool) {x y : Reading} → Small x → Small y → Small (if b then x else y)
choose true p q = p
choose false p q = q

status_small : (long : Bool) (s : List ℕ) → Small (read_status long s)
status_small long s =
    let w = width long in
    choose (ltb (length s) (fixed_end s w)) (one_digit 3 (omega arith))
    (choose (ltb (most_highest long) (field s 1 w)) (one_digit 4 (omega arith))
    (choose (count_refused (listed_in s) (count_in s w)) (one_digit 5 (omega arith))
    (choose (ltb (length s) (list_end s w)) (one_digit 6 (omega arith)) (no_refusal_status (status_in long s)))))

read_small : (s : List ℕ) → Small (read_frame s)
read_small s =
    choose (bad_length (length s)) (one_digit 1 (omega arith))
    (choose (eqb (type_in s) 0) (no_refusal_data false (field s 1 2))
    (choose (eqb (type_in s) 1) (status_small false s)
    (choose (eqb (type_in s) 2) (status_small true s)
    (choose (eqb (type_in s) 3) (no_refusal_data true (field s 1 3)) (one_digit 2 (omega arith))))))

-- the numbers of a status that can be written
highest_small : (long : Bool) (n : ℕ) → n ≤ most_highest long → n < 10 ^ 10
highest_small false n h = omega arith
highest_small true n h = omega arith

type_small : (long : Bool) → (data_type long < 10 ^ 10) × (status_type long < 10 ^ 10)
type_small false = omega arith
type_small true = omega arith

bit_small : (b : Bool) → bit b < 10 ^ 10
bit_small false = omega arith
bit_small true = omega arith

tabbed_more : (n : ℕ) (ns : List ℕ) → n < 10 ^ 10 → length (tabbed (n ∷ ns)) ≤ 11 + length (tabbed ns)
tabbed_more n ns h = omega (arith, length-append (marked n tab) (tabbed ns), marked_most n tab h)

status_most : (s : Status) → WritableStatus s → length (answer_to (status_of s)) ≤ most_text
status_most s w =
    let t = tabbed_more (status_type s.long) (s.highest ∷ s.desired ∷ s.minimum ∷ bit s.final ∷ []) (type_small s.long).1 in
    let h = tabbed_more s.highest (s.desired ∷ s.minimum ∷ bit s.final ∷ []) (highest_small s.long s.highest w.highest_fits) in
    let d = tabbed_more s.desired (s.minimum ∷ bit s.final ∷ []) (omega (arith, w.desired_fits)) in
    let m = tabbed_more s.minimum (bit s.final ∷ []) (omega (arith, w.minimum_fits)) in
    let f = tabbed_more (bit s.final) [] (bit_small s.final) in
    let fields = tabbed (status_type s.long ∷ s.highest ∷ s.desired ∷ s.minimum ∷ bit s.final ∷ []) in
    let texts = ranges_text s.ranges in
    omega (arith, ap length (status_text s), length-append fields (texts ++ (line_feed ∷ [])), length-append texts (line_feed ∷ []), ranges_most s.long s.ranges w.ranges_fit, w.ranges_few)

-- what octets are read as
reading_most : (s : List ℕ) → AreOctets s → (r : Reading) → read_frame s ≡ r → Small r → length (answer_to r) ≤ most_text
reading_most s o (data_of long n) e p =
    let below = read_is_writable s o (data_frame long n) (frame_read s (data_frame long n) e).1 in
    rw data_text (simp length-append (omega (arith, decimal_most 9 (data_type long) (type_small long).0, decimal_most 9 n (form_small long n below))))
reading_most s o (status_of t) e p = status_most t (read_is_writable s o (status_frame t) (frame_read s (status_frame t) e).1)
reading_most s o (refuse n) e p = rw refused_text (simp length-append (omega (arith, decimal_most 9 n (omega (arith, p.refusal n refl)))))

pub frame_most : (s : List ℕ) → AreOctets s → length (answer_to (read_frame s)) ≤ most_text
frame_most s o = reading_most s o (read_frame s) refl (read_small s)

pub line_most : (l : List ℕ) → length (line_of l) ≤ most_text
unfolding line_of
line_most l = by (unreadable l)
  where
    by : (b : Bool) → length (if b then ascii "unreadable\n" else answer_to (read_frame (octets_in l))) ≤ most_text
    by true = omega arith
    by false = frame_most (octets_in l) (octets_are l)
