-- The frames of TS 36.425 V15.0.0, 5.5, as document 01 lays them out ("Layout", "Refusal numbers"): what stands in the
-- octets of each type, what a reader answers to any octets, and what a writer leaves in any buffer.
--
-- The form is short (types 0 and 1) or long (types 2 and 3), said by one Bool: true is long.
-- Assumes nothing.
use Rattle.std.specs.Prelude.{Bool, true, false, not, List, [], ◌∷◌, ◌++◌, map, ℕ, zero, suc, ◌+◌, ◌-◌, ◌*◌, ◌/◌, ◌%◌, ◌≤◌, ltb, eqb, length, get_or, drop, replicate, if◌then◌else◌}
use Rattle.basics.specs.Basics.{◌and◌, ◌or◌, bit, Outcome, done, refused, all, some_in}
use Rattle.circle.specs.Lengths.{modulus}
use Rattle.frame_layout.specs.Octets.{octets, field}

-- ---- what the forms differ in

-- how many octets an X2-U number or the highest PDCP number takes
abbrev pub width : Bool → ℕ
width false = 2
width true = 3

-- the greatest highest PDCP number that a status may bear
abbrev pub most_highest : Bool → ℕ
most_highest false = 32767
most_highest true = 262143

-- the type of a data frame
abbrev pub data_type : Bool → ℕ
data_type false = 0
data_type true = 3

-- the type of a status frame
abbrev pub status_type : Bool → ℕ
status_type false = 1
status_type true = 2

-- the most ranges that a status carries
abbrev pub most_ranges : ℕ
most_ranges = 162

-- the least length of a frame
abbrev pub least_octets : ℕ
least_octets = 6

-- the greatest length of a frame
abbrev pub most_octets : ℕ
most_octets = 1018

-- ---- what frames say

-- a range runs forward from start through end
pub record Range : Type 0 where
  pub start : ℕ
  pub end : ℕ

-- what a status frame says
pub record Status : Type 0 where
  pub long : Bool
  pub final : Bool
  pub highest : ℕ
  pub desired : ℕ
  pub minimum : ℕ
  pub ranges : List Range

-- ---- the octets of each type

-- the first octet: the type in bits 7 to 4, Final in bit 1, whether a list is present in bit 0, all else 0
abbrev pub first_octet : ℕ → Bool → Bool → ℕ
first_octet t final listed = t * 16 + bit final * 2 + bit listed

-- the fewest zero octets that make a length n 4k - 2: the remainder of (2 - n) modulo 4, with 4 more so as not to go below zero
abbrev pub padding : ℕ → ℕ
padding n = (4 + 2 - n % 4) % 4

-- fields, and the fewest zero octets that make the length 4k - 2
abbrev pub padded : List ℕ → List ℕ
padded fields = fields ++ replicate (padding (length fields)) 0

-- types 0 and 3: the first octet and the X2-U number, padded
abbrev pub data_octets : Bool → ℕ → List ℕ
data_octets long n = padded (first_octet (data_type long) false false ∷ octets (width long) n)

-- ranges, each as start and end
abbrev pub range_octets : ℕ → List Range → List ℕ
range_octets w [] = []
range_octets w (r ∷ rs) = octets w r.start ++ octets w r.end ++ range_octets w rs

-- the loss list, present only where there is a range: the count and then the ranges
abbrev pub list_octets : ℕ → List Range → List ℕ
list_octets w [] = []
list_octets w (r ∷ rs) = length (r ∷ rs) ∷ range_octets w (r ∷ rs)

-- what a status holds before its padding: the first octet, highest PDCP, desired size, minimum size, and the loss list
abbrev pub status_fields : Status → List ℕ
status_fields s =
    first_octet (status_type s.long) s.final (some_in s.ranges)
    ∷ octets (width s.long) s.highest ++ octets 4 s.desired ++ octets 4 s.minimum ++ list_octets (width s.long) s.ranges

-- types 1 and 2: these fields, padded
abbrev pub status_octets : Status → List ℕ
status_octets s = padded (status_fields s)

-- ---- reading

-- what a reader answers: a data frame's form and number, a status, or the number of a refusal
pub data Reading : Type 0 where
  data_of : Bool → ℕ → Reading
  status_of : Status → Reading
  refuse : ℕ → Reading

-- the type: bits 7 to 4 of the first octet
abbrev pub type_in : List ℕ → ℕ
type_in s = get_or s 0 0 / 16

-- Final: bit 1 of the first octet
abbrev pub final_in : List ℕ → Bool
final_in s = eqb (get_or s 0 0 / 2 % 2) 1

-- whether a list is present: bit 0 of the first octet
abbrev pub listed_in : List ℕ → Bool
listed_in s = eqb (get_or s 0 0 % 2) 1

-- a length that no frame has: below 6, above 1,018, or not 4k - 2
abbrev pub bad_length : ℕ → Bool
bad_length n = ltb n least_octets or ltb most_octets n or not (eqb (n % 4) 2)

-- a count that no list has: 0, or above 162; without a list there is none to refuse
abbrev pub count_refused : Bool → ℕ → Bool
count_refused listed n = listed and (eqb n 0 or ltb most_ranges n)

-- n ranges, from place i on
abbrev pub ranges_at : List ℕ → ℕ → ℕ → ℕ → List Range
ranges_at s w i zero = []
ranges_at s w i (suc n) = record { start = field s i w; end = field s (i + w) w } ∷ ranges_at s w (i + 2 * w) n

-- the place of the desired size: behind the highest PDCP number of w octets, which stands at 1
abbrev pub desired_at : ℕ → ℕ
desired_at w = 1 + w

-- the place of the minimum size
abbrev pub minimum_at : ℕ → ℕ
minimum_at w = 5 + w

-- the place of the count octet, where there is a list
abbrev pub count_at : ℕ → ℕ
count_at w = 9 + w

-- the place of the list's first range
abbrev pub list_at : ℕ → ℕ
list_at w = 10 + w

-- how many ranges a status announces: 0 without a list
abbrev pub count_in : List ℕ → ℕ → ℕ
count_in s w = if listed_in s then get_or s (count_at w) 0 else 0

-- where the last fixed field ends, the count octet included if there is a list
abbrev pub fixed_end : List ℕ → ℕ → ℕ
fixed_end s w = if listed_in s then list_at w else count_at w

-- where the list ends
abbrev pub list_end : List ℕ → ℕ → ℕ
list_end s w = fixed_end s w + count_in s w * (2 * w)

-- the status in octets that refuse nothing
abbrev pub status_in : Bool → List ℕ → Status
status_in long s = record {
  long = long;
  final = final_in s;
  highest = field s 1 (width long);
  desired = field s (desired_at (width long)) 4;
  minimum = field s (minimum_at (width long)) 4;
  ranges = ranges_at s (width long) (list_at (width long)) (count_in s (width long));
}

-- types 1 and 2: 3, 4, 5, 6, or the status
abbrev pub read_status : Bool → List ℕ → Reading
read_status long s =
    if ltb (length s) (fixed_end s (width long)) then refuse 3 else
    (if ltb (most_highest long) (field s 1 (width long)) then refuse 4 else
    (if count_refused (listed_in s) (count_in s (width long)) then refuse 5 else
    (if ltb (length s) (list_end s (width long)) then refuse 6 else
    status_of (status_in long s))))

-- types 0 and 3: the number, which every frame that is long enough to be one holds
abbrev pub read_data : Bool → List ℕ → Reading
read_data long s = data_of long (field s 1 (width long))

-- by the type: its layout, or 2 for 4 to 15
abbrev pub read_type : ℕ → List ℕ → Reading
read_type t s =
    if eqb t 0 then read_data false s else
    (if eqb t 1 then read_status false s else
    (if eqb t 2 then read_status true s else
    (if eqb t 3 then read_data true s else
    refuse 2)))

-- any octets: 1, or by the type
abbrev pub read_frame : List ℕ → Reading
read_frame s = if bad_length (length s) then refuse 1 else read_type (type_in s) s

-- ---- writing

-- what a writer leaves: its answer, how many octets the frame has or a refusal, and the buffer
pub record Written : Type 0 where
  pub answer : Outcome ℕ
  pub buffer : List ℕ

-- a refusal leaves the buffer as it was
abbrev pub unwritten : ℕ → List ℕ → Written
unwritten n d = record { answer = refused n; buffer = d }

-- a length that is answered lies within a buffer
abbrev pub Within : List ℕ → Outcome ℕ → Type 0
Within d (done n) = n ≤ length d
Within d (refused n) = Unit

-- a frame at the front of a buffer, whose other octets stay; 20 for a buffer shorter than the frame
abbrev pub place : List ℕ → List ℕ → Written
place frame d =
    if ltb (length d) (length frame) then unwritten 20 d
    else record { answer = done (length frame); buffer = frame ++ drop (length frame) d }

-- a data frame: 10, 20, or the frame
abbrev pub write_data : Bool → ℕ → List ℕ → Written
write_data long n d = if ltb n (modulus long) then place (data_octets long n) d else unwritten 10 d

-- both ends of a range are numbers of the form
abbrev pub in_form : Bool → Range → Bool
in_form long r = ltb r.start (modulus long) and ltb r.end (modulus long)

-- a status: 4, 5, 10, 20, or the frame
abbrev pub write_status : Status → List ℕ → Written
write_status s d =
    if ltb (most_highest s.long) s.highest then unwritten 4 d else
    (if ltb most_ranges (length s.ranges) then unwritten 5 d else
    (if all (in_form s.long) s.ranges then place (status_octets s) d else
    unwritten 10 d))

-- ---- ranges as two lists of numbers

-- starts and ends as ranges: as many as there are of both
abbrev pub ranges_of : List ℕ → List ℕ → List Range
ranges_of [] es = []
ranges_of (s ∷ ss) [] = []
ranges_of (s ∷ ss) (e ∷ es) = record { start = s; end = e } ∷ ranges_of ss es

-- the starts of ranges
abbrev pub starts_of : List Range → List ℕ
starts_of rs = map (λ (r : Range). r.start) rs

-- the ends of ranges
abbrev pub ends_of : List Range → List ℕ
ends_of rs = map (λ (r : Range). r.end) rs
