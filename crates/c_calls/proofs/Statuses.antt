-- What was read, by its type: the answer, and of a status its ranges.
-- Assumes nothing.
use Rattle.std.proofs.Common.{◌≡◌, ℕ, Bool, true, false, List, [], ◌∷◌, Option, Some, None, length, get_or, refl, sym, ◌∙◌, ap, arith}
use lib.IntN.{pos}
use Rattle.basics.specs.Basics.{bit, done, refused}
use Rattle.frame_layout.specs.Frames.{Range, Status, Reading, data_of, status_of, refuse, data_type, status_type, width, list_at, read_frame}
use Rattle.frame_layout.proofs.Octets.{length_ranges_at}
use Rattle.frame_layout.specs.Types.{number_of}
use Rattle.frame_layout.specs.declared.FrameType.{FrameType}
use Rattle.frame_layout.specs.declared.FrameType.TheVariants as kind
use Rattle.frame_reader.specs.declared.Cursor.{Cursor}
use Rattle.frame_reader.specs.declared.Head.{Head}
use Rattle.frame_reader.specs.declared.Frame.TheVariants as read
use Rattle.frame_reader.specs.Answers.{reading_of, there}
use Rattle.frame_reader.proofs.Walk.{before, stands, all_there}
use Rattle.basics.proofs.Apart.{apart}
use Rattle.c_calls.specs.Boundary.{fields_of, ranges_in, answer_of, itself, minus, type_of, leaves, begins}
use Rattle.c_calls.specs.Looks.{kind_of, before_first, is_status, answer_to, first_of, no_type}

-- the count in a status's head is how many ranges it has
pub status_fields_lem : (s old : List ℕ) (h : Head) → 0 ∷ h.highest ∷ h.desired ∷ h.minimum ∷ bit h.last ∷ h.count ∷ [] ≡ fields_of old (reading_of s (read.Status h))
status_fields_lem s old h = rw (length_ranges_at s (width h.long) (list_at (width h.long)) h.count)

-- the ranges that are there from a cursor on, if there is one
abbrev pub there_from : List ℕ → Option Cursor → List Range
there_from s None = []
there_from s (Some c) = there s c

-- a status's ranges are there from the cursor before its first
status_there : (s : List ℕ) (st : Status) (c : Cursor) → read_frame s ≡ status_of st → c ≡ before st → there s c ≡ st.ranges
status_there s st c e is =
    let x = stands s st e in
    ap (there s) is ∙ sym (all_there s (before st) x.few x.held) ∙ x.there

-- it is the one of its form
form_before : (b : Bool) (st : Status) → st.long ≡ b → ◌≡◌ {A = Cursor} (record { long = b; place = list_at (width b); left = length st.ranges }) (before st)
form_before b st is = rw is

-- by its type
type_there : (s : List ℕ) (k : FrameType) (b : Bool) (st : Status) → read_frame s ≡ status_of st → st.long ≡ b → number_of k ≡ status_type b
    → there_from s (before_first k (length st.ranges)) ≡ st.ranges
type_there s kind.Data true st e is t = absurd (omega (arith, t))
type_there s kind.Data false st e is t = absurd (omega (arith, t))
type_there s kind.Status true st e is t = absurd (omega (arith, t))
type_there s kind.Status false st e is t = status_there s st _ e (form_before false st is)
type_there s kind.LongStatus true st e is t = status_there s st _ e (form_before true st is)
type_there s kind.LongStatus false st e is t = absurd (omega (arith, t))
type_there s kind.LongData true st e is t = absurd (omega (arith, t))
type_there s kind.LongData false st e is t = absurd (omega (arith, t))

-- by what a look tells, the ranges are there
pub listed_type : (s old : List ℕ) (r : Reading) (k : FrameType) → read_frame s ≡ r → done (number_of k) ≡ kind_of r
    → there_from s (before_first k (get_or (fields_of old r) 5 0)) ≡ ranges_in r
listed_type s old (data_of b n) kind.Data e t = refl
listed_type s old (data_of b n) kind.LongData e t = refl
listed_type s old (data_of true n) kind.Status e t = apart (cc)
listed_type s old (data_of true n) kind.LongStatus e t = apart (cc)
listed_type s old (data_of false n) kind.Status e t = apart (cc)
listed_type s old (data_of false n) kind.LongStatus e t = apart (cc)
listed_type s old (status_of st) k e t = let type : number_of k ≡ status_type st.long = cc in type_there s k st.long st e refl type
listed_type s old (refuse n) k e t = apart (cc)

-- what is refused has none
pub refused_none : (r : Reading) (n : ℕ) → refused n ≡ kind_of r → ranges_in r ≡ []
refused_none (data_of b m) n e = refl
refused_none (status_of st) n e = apart (cc)
refused_none (refuse m) n e = refl

-- the answer to what is seen is its type, or minus the number of the refusal
pub type_said : (r : Reading) → answer_of itself (kind_of r) ≡ type_of r
type_said (data_of long n) = refl
type_said (status_of st) = refl
type_said (refuse n) = refl

-- a refusal leaves the cursor
pub begins_refused : (old : List ℕ) (r : Reading) (n : ℕ) → refused n ≡ kind_of r → leaves (minus n) old ≡ begins old r
begins_refused old (data_of long m) n e = apart (cc)
begins_refused old (status_of st) n e = apart (cc)
begins_refused old (refuse m) n e = let same : n ≡ m = cc in ap (λ (k : ℕ). leaves (minus k) old) same

-- ---- the same by numbers. No call of C's goes so today; the laws stand

-- the number of what was read: its type, or past every type
abbrev pub type_number : Reading → ℕ
type_number (data_of long n) = data_type long
type_number (status_of s) = status_type s.long
type_number (refuse n) = no_type

-- the number of a refusal; 0 for none
abbrev pub refusal_of : Reading → ℕ
refusal_of (data_of long n) = 0
refusal_of (status_of s) = 0
refusal_of (refuse n) = n

-- the answer by both is the type or the refusal
pub told : (r : Reading) → answer_to (type_number r) (refusal_of r) ≡ type_of r
told (data_of true n) = refl
told (data_of false n) = refl
told (status_of s) = by s.long
  where
    by : (b : Bool) → answer_to (status_type b) 0 ≡ pos (status_type b)
    by true = refl
    by false = refl
told (refuse n) = refl

-- the cursor before a status's first range
first_is : (b : Bool) (st : Status) → st.long ≡ b → first_of (status_type b) (length st.ranges) ≡ before st
first_is true st e = rw e
first_is false st e = rw e

-- the ranges of a status are there
pub listed : (s old : List ℕ) (r : Reading) → read_frame s ≡ r → is_status (type_number r) ≡ true → there s (first_of (type_number r) (get_or (fields_of old r) 5 0)) ≡ ranges_in r
listed s old (data_of true n) e t = apart (cc)
listed s old (data_of false n) e t = apart (cc)
listed s old (status_of st) e t = status_there s st _ e (first_is st.long st refl)
listed s old (refuse n) e t = apart (cc)

-- no status has no ranges
pub unlisted : (r : Reading) → is_status (type_number r) ≡ false → ranges_in r ≡ []
unlisted (data_of long n) t = refl
unlisted (status_of st) t = by st.long t
  where
    by : (b : Bool) → is_status (status_type b) ≡ false → st.ranges ≡ []
    by true t = apart (cc)
    by false t = apart (cc)
unlisted (refuse n) t = refl
