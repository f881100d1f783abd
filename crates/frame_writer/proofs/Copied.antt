-- Octets copied to a place are laid there.
-- Assumes nothing.
use Rattle.std.proofs.Common.{◌≡◌, ℕ, ◌+◌, ◌-◌, ◌≤◌, List, ◌++◌, length, take, drop, sym, ap, ◌∙◌, arith, drop-drop, append_assoc}
use borrow.Rule.Slice.PartMut.{put_mid}
use Rattle.std.proofs.lemmas.List.Edits.{sets-eq}
use Rattle.basics.specs.Laid.{Room, Laid}

-- as many as the part that they are copied to holds
pub copied : (d os : List ℕ) (at n : ℕ) → n ≡ length os → Room d at n → Laid d at os (at + n) (put_mid at (at + n - at) d os)
copied d os at n many room =
    let few : at + n - at ≡ length os = omega arith in
    let room : at + length os ≤ length d = omega arith in
    record {
      behind = rw many;
      buffer = rw (few, sets-eq os d at room) (ap (λ (r : List ℕ). take at d ++ (os ++ r)) (drop-drop (length os) at d) ∙ sym (append_assoc (take at d) os (drop (at + length os) d)));
    }
