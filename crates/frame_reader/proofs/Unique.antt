-- Two answers of `read` that its contract allows for one frame are equal. (`first_range` and `next_range` answer by
-- an equation of the answer itself.) Assumes nothing.
use Rattle.std.proofs.Common.{◌≡◌, ℕ, List, length, sym, ◌∙◌, ap}
use Rattle.refusal.specs.declared.Refusal.{Refusal}
use Rattle.refusal.specs.Numbers.{number_of}
use Rattle.refusal.proofs.Numbers.{numbered, told}
use Rattle.frame_layout.specs.Frames.{Status as Said, status_of, refuse, read_frame}
use Rattle.frame_layout.proofs.Octets.{length_ranges_at}
use Rattle.frame_reader.specs.declared.Head.{Head}
use Rattle.frame_reader.specs.declared.Frame.{Frame}
use Rattle.frame_reader.specs.declared.Frame.TheVariants.{Data, Status, Refused}
use Rattle.frame_reader.specs.Answers.{reading_of}

-- a status says one thing
pub same_status : (x y : Said) → status_of x ≡ status_of y → x ≡ y
same_status x y e = cc

same_head : (s : List ℕ) (h k : Head) → reading_of s (Status h) ≡ reading_of s (Status k) → h ≡ k
same_head s h k e =
    let same = same_status _ _ e in
    let count : h.count ≡ k.count = sym (length_ranges_at s _ _ h.count) ∙ ap (λ (x : Said). length x.ranges) same ∙ length_ranges_at s _ _ k.count in
    λ i. record { long = (same i).long; last = (same i).final; highest = (same i).highest; desired = (same i).desired; minimum = (same i).minimum; count = count i }

-- a refusal is told by its number
same_refusal : (r q : Refusal) → refuse (number_of r) ≡ refuse (number_of q) → r ≡ q
same_refusal r q e = let same : number_of r ≡ number_of q = cc in sym (told r) ∙ ap numbered same ∙ told q

-- an answer stands for one reading, and no other answer stands for it
same_reading : (s : List ℕ) (a b : Frame) → reading_of s a ≡ reading_of s b → a ≡ b
same_reading s (Data l n) (Data k m) e = cc
same_reading s (Data l n) (Status h) e = cc
same_reading s (Data l n) (Refused m) e = cc
same_reading s (Status h) (Data k m) e = cc
same_reading s (Status h) (Status k) e = ap Status (same_head s h k e)
same_reading s (Status h) (Refused m) e = cc
same_reading s (Refused n) (Data k m) e = cc
same_reading s (Refused n) (Status h) e = cc
same_reading s (Refused n) (Refused m) e = ap Refused (same_refusal n m e)

-- what the contract of `read` allows is one answer
pub one_answer : (s : List ℕ) (a b : Frame) → reading_of s a ≡ read_frame s → reading_of s b ≡ read_frame s → a ≡ b
one_answer s a b p q = same_reading s a b (p ∙ sym q)
