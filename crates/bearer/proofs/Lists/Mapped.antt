-- Lists whose elements are mapped: what the machines' definitions on lists make of them, where each element's test or value is
-- the same before and after. And what holds of every element of a list, of a part of it, and of the gaps that records leave.
-- Assumes nothing.
use Rattle.std.specs.Prelude.{if◌then◌else◌}
use mathlib.Core.Path.{◌≡◌, refl, ap, ap₂}
use mathlib.Core.Bool.{Bool, true, false}
use mathlib.Core.List.{List, [], ◌∷◌, ◌++◌, map}
use Prim.Native.Nat.{ℕ, zero, suc, ◌≤◌, ◌<◌}
use native.Mathlib.Omega.{arith}
use native.Mathlib.Nat.{le_of_suc-le-suc}
use borrow.Author.Tests.{ltb-true, leb-false}
use lib.Dec.{ltb, leb}
use lib.ListN.{length, get_or, take, drop}
use Rattle.basics.specs.Basics.{◌and◌, ◌or◌, all}
use Rattle.basics.proofs.Choices.{and_true, choice}
use Rattle.bearer.specs.Losses.{Gap, gap, gaps, outside, front_of}
use Rattle.bearer.specs.Keeper.{run_with}
use Rattle.bearer.specs.Packets.{Each}

-- ---- every element of a list

pub each_so : {A : Type 0} {P Q : A → Type 0} (xs : List A) → ((x : A) → P x → Q x) → Each P xs → Each Q xs
each_so [] h ps = tt
each_so (x ∷ xs) h ps = (h x ps.0, each_so xs h ps.1)

pub each_both : {A : Type 0} (P Q : A → Type 0) (xs : List A) → Each P xs → Each Q xs → Each (λ (x : A). P x × Q x) xs
each_both P Q [] ps qs = tt
each_both P Q (x ∷ xs) ps qs = ((ps.0, qs.0), each_both P Q xs ps.1 qs.1)

module _ {A : Type 0} (P : A → Type 0) where
  pub each_drop : (n : ℕ) (xs : List A) → Each P xs → Each P (drop n xs)
  each_drop zero xs ps = ps
  each_drop (suc n) [] ps = tt
  each_drop (suc n) (x ∷ xs) ps = each_drop n xs ps.1

  pub each_take : (n : ℕ) (xs : List A) → Each P xs → Each P (take n xs)
  each_take zero xs ps = tt
  each_take (suc n) [] ps = tt
  each_take (suc n) (x ∷ xs) ps = (ps.0, each_take n xs ps.1)

  pub each_append : (xs ys : List A) → Each P xs → Each P ys → Each P (xs ++ ys)
  each_append [] ys ps qs = qs
  each_append (x ∷ xs) ys ps qs = (ps.0, each_append xs ys ps.1 qs)

  pub each_at : (xs : List A) (i : ℕ) (d : A) → i < length xs → Each P xs → P (get_or xs i d)
  each_at [] i d h ps = absurd (omega arith)
  each_at (x ∷ xs) zero d h ps = ps.0
  each_at (x ∷ xs) (suc i) d h ps = each_at xs i d (le_of_suc-le-suc h) ps.1

  pub each_map : {B : Type 0} (f : B → A) (xs : List B) → Each (λ (x : B). P (f x)) xs → Each P (map f xs)
  each_map f [] ps = tt
  each_map f (x ∷ xs) ps = (ps.0, each_map f xs ps.1)

module _ {A : Type 0} (p : A → Bool) where
  pub each_of_all : (xs : List A) → all p xs ≡ true → Each (λ (x : A). p x ≡ true) xs
  each_of_all [] e = tt
  each_of_all (x ∷ xs) e = let both = and_true (p x) (all p xs) e in (both.0, each_of_all xs both.1)

  -- the elements from a front on all have the property
  pub each_behind : (xs : List A) → Each (λ (x : A). p x ≡ true) (drop (front_of p xs) xs)
  each_behind [] = tt
  each_behind (x ∷ xs) = by (all p (x ∷ xs)) refl (each_behind xs)
    where
      by : (t : Bool) → all p (x ∷ xs) ≡ t → Each (λ (y : A). p y ≡ true) (drop (front_of p xs) xs)
          → Each (λ (y : A). p y ≡ true) (drop (if t then 0 else suc (front_of p xs)) (x ∷ xs))
      by true e rest = each_of_all (x ∷ xs) e
      by false e rest = rest

  -- where all elements have it, nothing stands in front of them
  pub front_none : (xs : List A) → all p xs ≡ true → front_of p xs ≡ 0
  front_none [] e = refl
  front_none (x ∷ xs) e = rw e

  -- a front is no longer than the list
  pub front_within : (xs : List A) → front_of p xs ≤ length xs
  front_within [] = omega arith
  front_within (x ∷ xs) = by (all p (x ∷ xs)) (front_within xs)
    where
      by : (t : Bool) → front_of p xs ≤ length xs → (if t then 0 else suc (front_of p xs)) ≤ suc (length xs)
      by true h = omega arith
      by false h = omega arith

-- ---- mapped lists

module _ {A B : Type 0} (f : A → B) where
  pub map_alike : (g : A → B) (xs : List A) → Each (λ (x : A). f x ≡ g x) xs → map f xs ≡ map g xs
  map_alike g [] es = refl
  map_alike g (x ∷ xs) es = ap₂ ◌∷◌ es.0 (map_alike g xs es.1)

-- tests that agree before and after
module _ {A B : Type 0} (f : A → B) (p : B → Bool) (q : A → Bool) where
  all_alike : (xs : List A) → Each (λ (x : A). p (f x) ≡ q x) xs → all p (map f xs) ≡ all q xs
  all_alike [] es = refl
  all_alike (x ∷ xs) es = ap₂ ◌and◌ es.0 (all_alike xs es.1)

  pub front_alike : (xs : List A) → Each (λ (x : A). p (f x) ≡ q x) xs → front_of p (map f xs) ≡ front_of q xs
  front_alike [] es = refl
  front_alike (x ∷ xs) es = choice (λ (n : ℕ). n) (all_alike (x ∷ xs) es) refl (ap suc (front_alike xs es.1))

  pub run_with_alike : (xs : List A) → Each (λ (x : A). p (f x) ≡ q x) xs → run_with p (map f xs) ≡ run_with q xs
  run_with_alike [] es = refl
  run_with_alike (x ∷ xs) es = choice (λ (n : ℕ). n) es.0 (ap suc (run_with_alike xs es.1)) refl

-- ---- gaps

-- a gap below l that holds a number
abbrev pub Below : ℕ → Gap → Type 0
Below l g = (g.from < g.to) × (g.to ≤ l)

gap_below : (c m l : ℕ) → m ≤ l → Each (Below l) (gap c m)
gap_below c m l h = by (ltb c m) refl
  where
    by : (t : Bool) → ltb c m ≡ t → Each (Below l) (if t then record { from = c; to = m } ∷ [] else [])
    by true e = ((ltb-true c m e, h), tt)
    by false e = tt

-- the gaps below l are such
pub gaps_below : (c l : ℕ) (os : List ℕ) → Each (Below l) (gaps c l os)
gaps_below c l [] = gap_below c l l (omega arith)
gaps_below c l (o ∷ os) =
    each_append (Below l) (if outside c l o then [] else gap c o) (gaps (if outside c l o then c else suc o) l os)
    (by (ltb o c) (leb l o) refl)
    (gaps_below (if outside c l o then c else suc o) l os)
  where
    by : (s t : Bool) → leb l o ≡ t → Each (Below l) (if s or t then [] else gap c o)
    by true t e = tt
    by false true e = tt
    by false false e = gap_below c o l (omega (arith, leb-false l o e))
