-- What stands at the ends of a list of numbers: the longest end with a property, by the last number that hasn't it, and the last number; and
-- where a number stands first.
-- Assumes nothing.
use Rattle.std.specs.Prelude.{if◌then◌else◌}
use mathlib.Core.Path.{◌≡◌, refl, ap}
use mathlib.Core.Bool.{Bool, true, false, cond}
use mathlib.Core.List.{List, [], ◌∷◌}
use Prim.Native.Nat.{ℕ, zero, suc, ◌+◌, ◌≤◌, ◌<◌}
use native.Mathlib.Omega.{arith}
use lib.ListN.{length, get_or, drop}
use lib.Seq.{set_out, sets}
use Rattle.std.proofs.lemmas.List.Recursion.{is_position_or_len}
use Rattle.std.specs.List.{position, position_or_len}
use lib.Dec.{eqb}
use Rattle.basics.specs.Basics.{◌or◌, all}
use Rattle.basics.proofs.Choices.{and_no}
use Rattle.circle.specs.Circle.{forward, forward_below}
use Rattle.bearer.specs.Losses.{before, ahead_of, front_of, first_behind, is_beyond}
use Rattle.bearer.specs.Keeper.{index_of}
use Rattle.bearer.proofs.Lists.Mapped.{front_none}
use Rattle.keeper_loss.specs.Tally.{found}

-- ---- the longest end all of which has a property

module _ (p : ℕ → Bool) where
  every : (xs : List ℕ) → ((k : ℕ) → k < length xs → p (get_or xs k 0) ≡ true) → all p xs ≡ true
  every [] h = refl
  every (x ∷ xs) h = rw (h 0 (omega arith)) (every xs (λ k l. h (suc k) (omega arith)))

  one_not : (xs : List ℕ) (i : ℕ) → i < length xs → p (get_or xs i 0) ≡ false → all p xs ≡ false
  one_not [] i l h = absurd (omega arith)
  one_not (x ∷ xs) zero l h = rw h
  one_not (x ∷ xs) (suc i) l h = rw (one_not xs i (omega arith) h) (and_no (p x))

  -- all have it
  pub front_all : (xs : List ℕ) → ((k : ℕ) → k < length xs → p (get_or xs k 0) ≡ true) → front_of p xs ≡ 0
  front_all xs h = front_none p xs (every xs h)

  -- behind the last element that hasn't it
  pub front_at : (xs : List ℕ) (i : ℕ) → i < length xs → p (get_or xs i 0) ≡ false → all p (drop (suc i) xs) ≡ true → front_of p xs ≡ suc i
  front_at [] i l h a = absurd (omega arith)
  front_at (x ∷ xs) zero l h a = rw h (ap suc (front_none p xs a))
  front_at (x ∷ xs) (suc i) l h a = rw (one_not (x ∷ xs) (suc i) l h) (ap suc (front_at xs i (omega arith) h a))

  -- the same, where each place behind it is asked by itself
  pub front_after : (xs : List ℕ) (i : ℕ) → i < length xs → p (get_or xs i 0) ≡ false → ((k : ℕ) → i < k → k < length xs → p (get_or xs k 0) ≡ true)
      → front_of p xs ≡ i + 1
  front_after [] i l h a = absurd (omega arith)
  front_after (x ∷ xs) zero l h a = rw h (ap suc (front_all xs (λ k m. a (suc k) (omega arith) (omega arith))))
  front_after (x ∷ xs) (suc i) l h a = rw (one_not (x ∷ xs) (suc i) l h) (omega (arith, front_after xs i (omega arith) h (λ k m n. a (suc k) (omega arith) (omega arith))))

-- ---- the last number

module _ (M base : ℕ) where
  pub beyond_last : (ns : List ℕ) (n i : ℕ) → i + 1 ≡ length ns → is_beyond M base ns n ≡ (before M base (get_or ns i 0) or ahead_of M (get_or ns i 0) n)
  beyond_last [] n i e = absurd (omega arith)
  beyond_last (m ∷ []) n i e = let z : i ≡ 0 = omega arith in rw z
  beyond_last (m ∷ l ∷ ls) n zero e = absurd (omega arith)
  beyond_last (m ∷ l ∷ ls) n (suc i) e = beyond_last (l ∷ ls) n i (omega arith)

-- ---- where a number stands first

-- counted on from the front, where it stands, or the length for nowhere
first_place : (n : ℕ) (ns : List ℕ) → index_of n ns ≡ position_or_len (λ m. eqb m n) ns
first_place n ns = is_position_or_len (index_of n) (λ (m : ℕ). eqb m n) refl step ns
  where
    step : (x : ℕ) (xs : List ℕ) → index_of n (x ∷ xs) ≡ cond (eqb x n) 0 (1 + index_of n xs)
    step x xs = by (eqb x n)
      where
        by : (t : Bool) → (if t then 0 else suc (index_of n xs)) ≡ cond t 0 (1 + index_of n xs)
        by true = refl
        by false = omega arith

pub found_is : (n : ℕ) (ns : List ℕ) → position (λ m. eqb m n) ns ≡ found n ns
found_is n ns = rw (first_place n ns)

-- ---- how far the first number can be

module _ (M base : ℕ) (pos : 0 < M) where
  pub first_below : (ns : List ℕ) → first_behind M base ns < M
  first_below [] = pos
  first_below (n ∷ ns) = by_test (before M base n)
    where
      by_test : (t : Bool) → (if t then forward M n base else 0) < M
      by_test true = forward_below M pos n base
      by_test false = pos

-- ---- stores past the end

-- past the end nothing is stored
pub sets_out : (a : List ℕ) (i : ℕ) (vs : List ℕ) → length a ≤ i → sets a i vs ≡ a
sets_out a i [] h = refl
sets_out a i (v ∷ vs) h = rw (set_out a i v h) (sets_out a (suc i) vs (omega arith))
