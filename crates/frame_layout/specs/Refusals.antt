-- Document 01's table of refusals and its orders, for frames: for each number its sentence, of any octets or any values, in the document's own
-- figures; for each call its numbers in order. Of the other pages only the words are used: a field and a range, M, and the octets that a frame has.
-- Type, list flag, count and lengths are said anew, so that no sentence follows a reader that looks for them elsewhere.
--
-- What a call answers by them is `Given` (the crate basics, Refusals.antt). The statements are `ReadsGiven`, `DataGiven` and
-- `StatusesGiven`, at the end; they are proved in proofs/Refusals.antt. What a refused write leaves: `WritesLeave` of Trips.antt.
-- Assumes nothing.
use Rattle.std.specs.Prelude.{◌≡◌, Bool, true, false, List, [], ◌∷◌, ◌⊎◌, ℕ, ◌+◌, ◌*◌, ◌/◌, ◌%◌, ◌≤◌, ◌<◌, length, get_or}
use Rattle.basics.specs.Basics.{Outcome, done, refused}
use Rattle.basics.specs.Refusals.{Refusal, ◌when◌, Given, Some}
use Rattle.circle.specs.Lengths.{modulus}
use Rattle.frame_layout.specs.Octets.{field}
use Rattle.frame_layout.specs.Frames.{Range, Status, Reading, data_of, status_of, refuse, data_octets, status_octets, read_frame, write_data, write_status}

-- ---- the layout's table

-- "The first octet holds the type in bits 7 to 4."
abbrev pub type_of : List ℕ → ℕ
type_of s = get_or s 0 0 / 16

-- "bit 0 says a loss list is present"
abbrev pub Listed : List ℕ → Type 0
Listed s = get_or s 0 0 % 2 ≡ 1

-- what is said of types 1 and 2: the octets of highest PDCP, its maximum, and the octets before padding, without a list and with n ranges
pub record Layout : Type 0 where
  pub highest : ℕ
  pub most : ℕ
  pub bare : ℕ
  pub listed : ℕ → ℕ

-- by the form: type 1, or type 2 if it is long
abbrev pub layout_of : Bool → Layout
layout_of false = record { highest = 2; most = 32767; bare = 11; listed = λ (n : ℕ). 12 + 4 * n }
layout_of true = record { highest = 3; most = 262143; bare = 12; listed = λ (n : ℕ). 13 + 6 * n }

-- the frame is a status, of type 1 or 2, of which something is said by its layout
abbrev pub OfStatus : List ℕ → (Layout → Type 0) → Type 0
OfStatus s P = ((type_of s ≡ 1) × P (layout_of false)) ⊎ ((type_of s ≡ 2) × P (layout_of true))

-- the count octet: the first behind what a status without a list has
abbrev pub count_octet : List ℕ → Layout → ℕ
count_octet s y = get_or s y.bare 0

-- ---- the sentences, of octets that are read

-- 1: "length below 6, above 1,018, or not 4k - 2"
abbrev pub BadLength : List ℕ → Type 0
BadLength s = (length s < 6) ⊎ (1018 < length s) ⊎ ((k : ℕ) → length s + 2 ≡ 4 * k → ⊥)

-- 2: "type 4 to 15"; no octet has a type above 15
abbrev pub Reserved : List ℕ → Type 0
Reserved s = 4 ≤ type_of s

-- 3: "frame ends before the last fixed field, count octet included if bit 0 is set"
abbrev pub EndsEarly : List ℕ → Type 0
EndsEarly s =
    ((type_of s ≡ 0) × (length s < 3))
    ⊎ ((type_of s ≡ 3) × (length s < 4))
    ⊎ OfStatus s (λ (y : Layout). (length s < y.bare) ⊎ (Listed s × (length s < y.listed 0)))

-- 4: "highest PDCP above its type's maximum"
abbrev pub HighestAbove : List ℕ → Type 0
HighestAbove s = OfStatus s (λ (y : Layout). y.most < field s 1 y.highest)

-- 5: "count 0 or above 162"
abbrev pub BadCount : List ℕ → Type 0
BadCount s = OfStatus s (λ (y : Layout). Listed s × ((count_octet s y ≡ 0) ⊎ (162 < count_octet s y)))

-- 6: "frame ends inside the list"
abbrev pub EndsInList : List ℕ → Type 0
EndsInList s = OfStatus s (λ (y : Layout). Listed s × (length s < y.listed (count_octet s y)))

-- "Read: 1, 2, 3, 4, 5, 6."
abbrev pub read_refusals : List ℕ → List Refusal
read_refusals s =
    (1 when BadLength s)
    ∷ (2 when Reserved s)
    ∷ (3 when EndsEarly s)
    ∷ (4 when HighestAbove s)
    ∷ (5 when BadCount s)
    ∷ (6 when EndsInList s)
    ∷ []

-- ---- the sentences, of what is written: "Write: 4, 5 (only above 162; an empty list clears bit 0), 10, 20."

-- 10, of a range: "an X2-U number is M or more"
abbrev pub PastForm : Bool → Range → Type 0
PastForm long r = (modulus long ≤ r.start) ⊎ (modulus long ≤ r.end)

-- data has neither highest nor list: 10, and 20, "buffer shorter than the frame"
abbrev pub data_refusals : Bool → ℕ → List ℕ → List Refusal
data_refusals long n d =
    (10 when modulus long ≤ n)
    ∷ (20 when length d < length (data_octets long n))
    ∷ []

-- a status: "Given to write alone, a type 1 frame obeys 32,767 for highest."
abbrev pub status_refusals : Status → List ℕ → List Refusal
status_refusals s d =
    (4 when (layout_of s.long).most < s.highest)
    ∷ (5 when 162 < length s.ranges)
    ∷ (10 when Some (PastForm s.long) s.ranges)
    ∷ (20 when length d < length (status_octets s))
    ∷ []

-- ---- the statements

-- a reading as an answer: a frame, or a refusal
abbrev pub answered : Reading → Outcome Unit
answered (data_of long n) = done tt
answered (status_of s) = done tt
answered (refuse n) = refused n

-- any octets at all are refused with the first of 1 to 6 whose sentence holds, and read if none does
abbrev pub ReadsGiven : Type 0
ReadsGiven = (s : List ℕ) → Given (read_refusals s) (answered (read_frame s))

-- any number and any buffer: 10, 20
abbrev pub DataGiven : Type 0
DataGiven = (long : Bool) (n : ℕ) (d : List ℕ) → Given (data_refusals long n d) (write_data long n d).answer

-- any status and any buffer: 4, 5, 10, 20
abbrev pub StatusesGiven : Type 0
StatusesGiven = (s : Status) (d : List ℕ) → Given (status_refusals s d) (write_status s d).answer
