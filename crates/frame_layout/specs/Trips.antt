-- What the round trips speak of, and their statements: what was written is read again, and what was read is written again, for all four types at
-- once and every buffer with room. They are proved in proofs/Trips.antt, `WritesLeave` in proofs/Within.antt.
-- Assumes nothing.
use Rattle.std.specs.Prelude.{◌≡◌, Bool, true, false, List, [], ◌∷◌, ◌++◌, ℕ, ◌+◌, ◌*◌, ◌/◌, ◌%◌, ◌^◌, ◌≤◌, ◌<◌, length, get_or, take, drop, replicate, if◌then◌else◌}
use Rattle.basics.specs.Basics.{done, all, some_in}
use Rattle.circle.specs.Lengths.{modulus}
use Rattle.frame_layout.specs.Frames.{most_highest, most_ranges, least_octets, most_octets, Status, padding, padded, data_octets, status_octets, Reading, data_of, status_of, read_frame, Written, unwritten, in_form, write_data, write_status}
use Rattle.frame_layout.specs.Refusals.{layout_of}

-- ---- frames

-- a data frame of a form and a number, or a status of its form
pub data Frame : Type 0 where
  data_frame : Bool → ℕ → Frame
  status_frame : Status → Frame

-- its octets
abbrev pub frame_octets : Frame → List ℕ
frame_octets (data_frame long n) = data_octets long n
frame_octets (status_frame s) = status_octets s

-- what a reader answers to it
abbrev pub reading_of : Frame → Reading
reading_of (data_frame long n) = data_of long n
reading_of (status_frame s) = status_of s

-- what its writer leaves in a buffer
abbrev pub write_frame : Frame → List ℕ → Written
write_frame (data_frame long n) d = write_data long n d
write_frame (status_frame s) d = write_status s d

-- a status that its type can carry
pub record WritableStatus (s : Status) : Type 0 where
  pub highest_fits : s.highest ≤ most_highest s.long
  pub desired_fits : s.desired < 2 ^ 32
  pub minimum_fits : s.minimum < 2 ^ 32
  pub ranges_few : length s.ranges ≤ most_ranges
  pub ranges_fit : all (in_form s.long) s.ranges ≡ true

-- a frame that its type can carry
abbrev pub Writable : Frame → Type 0
Writable (data_frame long n) = n < modulus long
Writable (status_frame s) = WritableStatus s

-- ---- octets

-- every element of s is an octet
pub record AreOctets (s : List ℕ) : Type 0 where
  pub at : (i : ℕ) → get_or s i 0 < 256

-- a length that a frame can have: 4k - 2, from 6 to 1,018
pub record GoodLength (n : ℕ) : Type 0 where
  pub least : least_octets ≤ n
  pub most : n ≤ most_octets
  pub phase : n % 4 ≡ 2

-- how many octets a frame has "before padding": where its last field ends
abbrev pub before_padding : Frame → ℕ
before_padding (data_frame false n) = 3
before_padding (data_frame true n) = 4
before_padding (status_frame s) = if some_in s.ranges then (layout_of s.long).listed (length s.ranges) else (layout_of s.long).bare

-- m octets are n and 0 to 3 more
abbrev pub Fewest : ℕ → ℕ → Type 0
Fewest n m = (n ≤ m) × (m < n + 4)

-- the spare bits of the first octet: bits 3 to 0 of a data frame, bits 3 and 2 of a status
abbrev pub spare_in : Frame → List ℕ → ℕ
spare_in (data_frame long n) s = get_or s 0 0 % 16
spare_in (status_frame t) s = get_or s 0 0 / 4 % 4

-- octets s of the frame f whose spare bits are zero, and behind whose last field stand the fewest zero octets and nothing else
pub record Canonical (f : Frame) (s : List ℕ) : Type 0 where
  pub spare : spare_in f s ≡ 0
  pub rest : drop (before_padding f) s ≡ replicate (padding (before_padding f)) 0

-- a first octet with these bits set to zero
abbrev pub cleared_first : Frame → ℕ → ℕ
cleared_first (data_frame long n) x = x / 16 * 16
cleared_first (status_frame t) x = x / 16 * 16 + x % 4

-- octets with these bits set to zero
abbrev pub cleared : Frame → List ℕ → List ℕ
cleared f [] = []
cleared f (x ∷ s) = cleared_first f x ∷ s

-- ---- buffers

-- s was written into d: the answer is its length, it stands at the front, and the rest of d is as it was
abbrev pub written : List ℕ → List ℕ → Written
written s d = record { answer = done (length s); buffer = s ++ drop (length s) d }

-- a refusal and the buffer as it was, or a frame written into a buffer that has room for it
pub data Leaves (frame d : List ℕ) : Written → Type 0 where
  refuses : (n : ℕ) → Leaves frame d (unwritten n d)
  writes : length frame ≤ length d → Leaves frame d (written frame d)

-- ---- the statements

-- "On success the writer changes exactly the frame's octets at the front of the buffer and answers how many they are"; refused, it changes none
abbrev pub WritesLeave : Type 0
WritesLeave = (f : Frame) (d : List ℕ) → Leaves (frame_octets f) d (write_frame f d)

-- "The writer adds the fewest zero octets, 0 to 3, that make the length 4k - 2."
abbrev pub WrittenLengths : Type 0
WrittenLengths = (f : Frame) → Writable f → GoodLength (length (frame_octets f)) × Fewest (before_padding f) (length (frame_octets f))

-- a frame that can be written is, and reading what was written gives the same values, Final and every range included
abbrev pub ReadOfWritten : Type 0
ReadOfWritten =
    (f : Frame) → Writable f → (d : List ℕ) → length (frame_octets f) ≤ length d
    → (write_frame f d ≡ written (frame_octets f) d) × (read_frame (take (length (frame_octets f)) (write_frame f d).buffer) ≡ reading_of f)

-- the octets of a frame that was read are those that it was read from, up to its last field, the spare bits set to zero, padded anew
abbrev pub OctetsOfRead : Type 0
OctetsOfRead = (s : List ℕ) → AreOctets s → (f : Frame) → read_frame s ≡ reading_of f → frame_octets f ≡ padded (take (before_padding f) (cleared f s))

-- rewriting what was read gives the same octets where spare bits and padding are zero, padding is the least and no extension follows
abbrev pub WrittenOfRead : Type 0
WrittenOfRead =
    (s : List ℕ) → AreOctets s → (f : Frame) → read_frame s ≡ reading_of f → Canonical f s
    → (d : List ℕ) → length s ≤ length d → write_frame f d ≡ written s d

-- every frame that was written is one of those that the second trip speaks of
abbrev pub WrittenIsCanonical : Type 0
WrittenIsCanonical = (f : Frame) → Writable f → AreOctets (frame_octets f) × (read_frame (frame_octets f) ≡ reading_of f) × Canonical f (frame_octets f)
