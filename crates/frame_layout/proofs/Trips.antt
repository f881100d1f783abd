-- Both round trips of frames, for all four types at once and every buffer with room: the statements of specs/Trips.antt.
-- Assumes nothing.
use Rattle.std.specs.Prelude.{if◌then◌else◌}
use mathlib.Core.Path.{◌≡◌, refl, sym, ◌∙◌, ap, subst}
use mathlib.Core.Bool.{Bool, true, false}
use mathlib.Core.List.{List}
use Prim.Native.Nat.{ℕ, ◌^◌, ◌≤◌, ◌<◌}
use borrow.Author.Tests.{le-ltb, lt-ltb, ltb-false}
use lib.Dec.{ltb}
use lib.ListN.{length, take, drop}
use lib.Seq.{take-append_seam}
use Rattle.basics.specs.Basics.{all, done}
use Rattle.basics.proofs.Choices.{never_done}
use Rattle.circle.specs.Lengths.{modulus}
use Rattle.frame_layout.specs.Frames.{most_highest, most_ranges, Status, data_octets, status_octets, read_frame, Written, unwritten, place, in_form, write_status}
use Rattle.frame_layout.specs.Trips.{Frame, data_frame, status_frame, frame_octets, reading_of, write_frame, WritableStatus, Writable, written, WrittenLengths, ReadOfWritten, OctetsOfRead, WrittenOfRead, WrittenIsCanonical}
use Rattle.frame_layout.proofs.Written.{data_good, data_fewest, data_reads, data_canonical, data_are, status_good, status_fewest, status_reads, status_canonical, status_are}
use Rattle.frame_layout.proofs.Read.{frame_read, read_is_writable}
use Rattle.frame_layout.proofs.Rewritten.{frame_laid, frame_again}

-- A frame that can be written is written, into every buffer with room.
pub is_written : (f : Frame) → Writable f → (d : List ℕ) → length (frame_octets f) ≤ length d → write_frame f d ≡ written (frame_octets f) d
is_written (data_frame long n) h d room = simp (lt-ltb n (modulus long) h, le-ltb (length d) (length (data_octets long n)) room)
is_written (status_frame s) h d room =
    let p4 = le-ltb (most_highest s.long) s.highest h.highest_fits in
    let p5 = le-ltb most_ranges (length s.ranges) h.ranges_few in
    simp (p4, p5, h.ranges_fit, le-ltb (length d) (length (status_octets s)) room)

-- A status that was written, with sizes of 32 bits, is one that can be.
pub was_writable : (s : Status) (d : List ℕ) (c : ℕ) → s.desired < 2 ^ 32 → s.minimum < 2 ^ 32 → (write_status s d).answer ≡ done c → WritableStatus s
was_writable s d c desired minimum e =
    let past4 = went_on (ltb (most_highest s.long) s.highest) 4 _ e in
    let past5 = went_on (ltb most_ranges (length s.ranges)) 5 _ past4.1 in
    record {
      highest_fits = ltb-false (most_highest s.long) s.highest past4.0;
      desired_fits = desired;
      minimum_fits = minimum;
      ranges_few = ltb-false most_ranges (length s.ranges) past5.0;
      ranges_fit = in_form_lem (all (in_form s.long) s.ranges) past5.1;
    }
  where
    -- a test that refuses didn't hold
    went_on : (t : Bool) (n : ℕ) (w : Written) → (if t then unwritten n d else w).answer ≡ done c → (t ≡ false) × (w.answer ≡ done c)
    went_on true n w a = never_done n c a
    went_on false n w a = (refl, a)

    -- and the last one, without which it is refused, did
    in_form_lem : (t : Bool) → (if t then place (status_octets s) d else unwritten 10 d).answer ≡ done c → t ≡ true
    in_form_lem true a = refl
    in_form_lem false a = never_done 10 c a

-- Its length is 4k - 2, from 6 to 1018, so that the reader never answers 1 to it, and as few octets as that takes.
pub written_lengths : WrittenLengths
written_lengths (data_frame long n) h = (data_good long n, data_fewest long n)
written_lengths (status_frame s) h = (status_good s h, status_fewest s h)

-- Its octets are read as the frame.
pub is_read : (f : Frame) → Writable f → read_frame (frame_octets f) ≡ reading_of f
is_read (data_frame long n) h = data_reads long n h
is_read (status_frame s) h = status_reads s h

-- Reading what was written gives the same values.
pub read_of_written : ReadOfWritten
read_of_written f h d room =
    let n : ℕ = length (frame_octets f) in
    let wrote : write_frame f d ≡ written (frame_octets f) d = is_written f h d room in
    let front : take n (write_frame f d).buffer ≡ frame_octets f = ap (λ (r : Written). take n r.buffer) wrote ∙ take-append_seam (frame_octets f) (drop n d) in
    (wrote, ap read_frame front ∙ is_read f h)

-- What was read has the octets that it was read from, but for spare bits, padding and extension.
pub octets_of_read : OctetsOfRead
octets_of_read s o f e =
    let r = frame_read s f e in
    frame_laid s o r.0.least f r.1

-- Rewriting what was read gives the same octets, where these are canonical.
pub written_of_read : WrittenOfRead
written_of_read s o f e c d room =
    let r = frame_read s f e in
    let same : frame_octets f ≡ s = frame_again s o r.0.least f r.1 c in
    let fits : length (frame_octets f) ≤ length d = subst (λ (t : List ℕ). length t ≤ length d) (sym same) room in
    is_written f (read_is_writable s o f r.1) d fits ∙ ap (λ (t : List ℕ). written t d) same

-- Every frame that was written is one of those that the second trip speaks of.
pub written_is_canonical : WrittenIsCanonical
written_is_canonical (data_frame long n) h = (data_are long n, data_reads long n h, data_canonical long n)
written_is_canonical (status_frame s) h = (status_are s h, status_reads s h, status_canonical s h)
