-- General laws of lists: of those whose elements are mapped, of one with an element more at a place, and of two that are the same.
-- Assumes nothing.
use mathlib.Core.Bool.{true}
use mathlib.Core.Path.{◌≡◌, refl, sym, ◌∙◌, ap}
use mathlib.Core.List.{List, [], ◌∷◌, ◌++◌, map, map-append}
use Prim.Native.Nat.{ℕ, zero, suc, ◌+◌, ◌<◌}
use native.Mathlib.Nat.{le_of_suc-le-suc}
use native.Mathlib.Omega.{arith}
use lib.Dec.{eqb}
use lib.ListN.{length, get_or, take, drop, set, take-append-drop, length-append}
use borrow.Author.Tests.{eqb-true}
use Rattle.basics.specs.Basics.{same}
use Rattle.basics.proofs.Choices.{and_true}

-- ---- mapped lists

module _ {A B : Type 0} (f : A → B) where
  -- the front of a mapped list
  pub map_take : (n : ℕ) (xs : List A) → take n (map f xs) ≡ map f (take n xs)
  map_take zero xs = refl
  map_take (suc n) [] = refl
  map_take (suc n) (x ∷ xs) = ap (λ (ys : List B). f x ∷ ys) (map_take n xs)

  -- what stands behind it
  pub map_drop : (n : ℕ) (xs : List A) → drop n (map f xs) ≡ map f (drop n xs)
  map_drop zero xs = refl
  map_drop (suc n) [] = refl
  map_drop (suc n) (x ∷ xs) = map_drop n xs

  -- one with another element at a place
  pub map_set : (xs : List A) (i : ℕ) (a : A) → set (map f xs) i (f a) ≡ map f (set xs i a)
  map_set [] i a = refl
  map_set (x ∷ xs) zero a = refl
  map_set (x ∷ xs) (suc i) a = ap (λ (ys : List B). f x ∷ ys) (map_set xs i a)

  -- what stands at a place
  pub get_d_within : (xs : List A) (i : ℕ) (b : B) (a : A) → i < length xs → get_or (map f xs) i b ≡ f (get_or xs i a)
  get_d_within [] i b a h = absurd (omega arith)
  get_d_within (x ∷ xs) zero b a h = refl
  get_d_within (x ∷ xs) (suc i) b a h = get_d_within xs i b a (le_of_suc-le-suc h)

-- ---- an element put at a place

-- a list with an element at a place
abbrev pub inserted : {A : Type 0} → ℕ → A → List A → List A
inserted p y xs = take p xs ++ (y ∷ drop p xs)

-- its image
pub map_inserted : {A B : Type 0} (f : A → B) (p : ℕ) (y : A) (xs : List A) → map f (inserted p y xs) ≡ inserted p (f y) (map f xs)
map_inserted f p y xs = rw (map-append f (take p xs) (y ∷ drop p xs), ← map_take f p xs, ← map_drop f p xs)

-- it is longer by one
pub length_inserted : {A : Type 0} (p : ℕ) (y : A) (xs : List A) → length (inserted p y xs) ≡ suc (length xs)
length_inserted p y xs =
    let whole : length (take p xs) + length (drop p xs) ≡ length xs = sym (length-append (take p xs) (drop p xs)) ∙ ap length (take-append-drop p xs) in
    rw (length-append (take p xs) (y ∷ drop p xs)) (omega arith)

-- ---- lists that are the same

-- two lists that are the same are equal
pub same_equal : (k l : List ℕ) → same k l ≡ true → k ≡ l
same_equal [] [] e = refl
same_equal [] (d ∷ ds) e = cc
same_equal (c ∷ cs) [] e = cc
same_equal (c ∷ cs) (d ∷ ds) e =
    let p = and_true (eqb c d) (same cs ds) e in
    let heads = eqb-true c d p.0 in
    let tails = same_equal cs ds p.1 in
    cc
