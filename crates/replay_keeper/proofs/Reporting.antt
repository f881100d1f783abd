-- A status is written into room at the front of an empty buffer.
-- Assumes nothing.
use mathlib.Core.Path.{◌≡◌, refl, ap}
use mathlib.Core.List.{List, ◌∷◌}
use Prim.Native.Nat.{ℕ, zero, suc, ◌≤◌}
use native.Mathlib.Omega.{arith}
use lib.ListN.{length, take, replicate}
use mathlib.Core.List.{◌++◌}
use Rattle.std.proofs.Common.{take_all, length-take}
use Rattle.std.proofs.lemmas.List.{take-append-le}
use Rattle.replay_answers.specs.Answers.{most_frame}

-- such room is an empty buffer
pub room_empty : (n m : ℕ) → n ≤ m → take {A = ℕ} n (replicate m 0) ≡ replicate n 0
room_empty zero m h = refl
room_empty (suc n) zero h = absurd (let no : ⊥ = omega arith in no)
room_empty (suc n) (suc m) h = ap (λ (l : List ℕ). 0 ∷ l) (room_empty n m (omega arith))

-- what stands at the front of the room stands at the front of the buffer, and is printed whole
pub frame_whole : (n : ℕ) (room rest : List ℕ) → n ≤ length room → length room ≤ most_frame → take most_frame (take n (room ++ rest)) ≡ take n room
frame_whole n room rest h g = rw (take-append-le n room rest h) (take_all most_frame (take n room) (omega (arith, length-take n room)))
