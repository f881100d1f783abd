-- A line of which the front is held: what it tells, and a part of it laid behind what is held, in a buffer of m octets.
-- Assumes nothing.
use Rattle.std.proofs.Common.{◌≡◌, ℕ, suc, ◌+◌, ◌-◌, ◌<◌, ◌≤◌, min, List, ◌++◌, length, take, drop, sym, ap, ◌∙◌, arith, length-append, length-take, length-take-le, take_all, take_at}
use lib.Seq.{sets, sets-eq, take-append-add}
use Rattle.lister_text.proofs.Cases.{below_or}

-- where all lists longer than m have the same answer, a list is answered by the m + 1 elements at its front
pub front_answers : {A : Type 0} (f : List ℕ → A) (x : A) (m : ℕ) → ((l : List ℕ) → m < length l → f l ≡ x) → (l : List ℕ) → f (take (suc m) l) ≡ f l
front_answers f x m long l =
    below_or (suc m) (length l)
    (λ h. long (take (suc m) l) (omega (arith, length-take (suc m) l)) ∙ sym (long l (omega arith)))
    (λ h. ap f (take_all (suc m) l h))

-- the part that there is room for, and what a part that long is of another
module _ (line part : List ℕ) (m held n : ℕ) (within : held ≤ m) (size : length line ≡ m) (fits : n ≡ min (length part) (m - held)) where
  pub laid_size : length (take n part) ≡ n
  laid_size = length-take-le n part (omega arith)

  front_size : length (take held line) ≡ held
  front_size = length-take-le held line (omega arith)

  pub same_part : take (m - held) part ≡ take n part
  same_part =
      below_or (m - held) (length part)
      (λ h. ap (λ (k : ℕ). take k part) (let e : m - held ≡ n = omega arith in e))
      (λ h. take_all (m - held) part h ∙ sym (take_all n part (omega arith)))

  pub held_more : take (held + length (take n part)) (sets line held (take n part)) ≡ take m (take held line ++ part)
  held_more =
      let whole : length (take held line) + (m - held) ≡ m = omega (arith, front_size) in
      let seam : length (take held line ++ take n part) ≡ held + length (take n part) = length-append (take held line) (take n part) ∙ omega (arith, front_size) in
      ap (take (held + length (take n part))) (sets-eq (take n part) line held (omega (arith, laid_size)))
      ∙ take_at (take held line ++ take n part) (drop (held + length (take n part)) line) (held + length (take n part)) seam
      ∙ ap (λ (t : List ℕ). take held line ++ t) (sym same_part)
      ∙ sym (take-append-add (take held line) part (m - held))
      ∙ ap (λ (k : ℕ). take k (take held line ++ part)) whole
