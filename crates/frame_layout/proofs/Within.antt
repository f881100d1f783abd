-- What a writer leaves (specs/Trips.antt, `WritesLeave`). So a refused write changes no octet, and a length that is answered lies within the buffer.
-- Assumes nothing.
use mathlib.Core.Path.{◌≡◌, sym, subst}
use mathlib.Core.Bool.{Bool}
use mathlib.Core.List.{List}
use Prim.Native.Nat.{ℕ, ◌≤◌}
use borrow.Author.Tests.{ltb-false}
use lib.Dec.{ltb}
use lib.ListN.{length}
use Rattle.basics.specs.Basics.{Outcome, done, all}
use Rattle.circle.specs.Lengths.{modulus}
use Rattle.basics.proofs.Choices.{of_choice}
use Rattle.frame_layout.specs.Frames.{Status, Written, Within, place, data_octets, status_octets, most_highest, most_ranges, in_form, write_data, write_status}
use Rattle.frame_layout.specs.Trips.{data_frame, status_frame, Leaves, refuses, writes, WritesLeave}

-- a frame that is placed in a buffer
place_leaves : (frame d : List ℕ) → Leaves frame d (place frame d)
place_leaves frame d = of_choice (Leaves frame d) (ltb (length d) (length frame)) _ _ (λ _. refuses 20) λ e. writes (ltb-false (length d) (length frame) e)

-- a data frame
pub data_leaves : (long : Bool) (n : ℕ) (d : List ℕ) → Leaves (data_octets long n) d (write_data long n d)
data_leaves long n d = of_choice (Leaves (data_octets long n) d) (ltb n (modulus long)) _ _ (λ _. place_leaves (data_octets long n) d) (λ _. refuses 10)

-- a status
pub status_leaves : (s : Status) (d : List ℕ) → Leaves (status_octets s) d (write_status s d)
status_leaves s d =
    let P : Written → Type 0 = Leaves (status_octets s) d in
    of_choice P (ltb (most_highest s.long) s.highest) _ _ (λ _. refuses 4) λ _.
    of_choice P (ltb most_ranges (length s.ranges)) _ _ (λ _. refuses 5) λ _.
    of_choice P (all (in_form s.long) s.ranges) _ _ (λ _. place_leaves (status_octets s) d) (λ _. refuses 10)

-- any frame
pub writes_leave : WritesLeave
writes_leave (data_frame long n) d = data_leaves long n d
writes_leave (status_frame s) d = status_leaves s d

-- ---- a length that is answered lies within the buffer

leaves_within : {frame d : List ℕ} {w : Written} → Leaves frame d w → Within d w.answer
leaves_within (refuses n) = tt
leaves_within (writes room) = room

pub within_data : (long : Bool) (n : ℕ) (d : List ℕ) → Within d (write_data long n d).answer
within_data long n d = leaves_within (data_leaves long n d)

pub within_status : (s : Status) (d : List ℕ) → Within d (write_status s d).answer
within_status s d = leaves_within (status_leaves s d)

-- the length that was answered
pub answered_within : (d : List ℕ) {n : ℕ} {o : Outcome ℕ} → done n ≡ o → Within d o → n ≤ length d
answered_within d e h = subst (Within d) (sym e) h
