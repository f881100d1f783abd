-- How many gaps there can be, and how many numbers they can hold; and the lowest distance with a number more.
-- Assumes nothing.
use Rattle.std.specs.Prelude.{if◌then◌else◌}
use mathlib.Core.Path.{◌≡◌, refl}
use mathlib.Core.Bool.{Bool, true, false}
use mathlib.Core.List.{List, [], ◌∷◌, ◌++◌, append-nil}
use Prim.Native.Nat.{ℕ, suc, ◌+◌, ◌-◌, ◌≤◌, ◌<◌}
use native.Mathlib.Omega.{arith}
use lib.Dec.{ltb, leb, eqb}
use lib.ListN.{length, length-append}
use borrow.Author.Tests.{ltb-false, leb-false, le-ltb, le-leb}
use Rattle.basics.specs.Basics.{◌or◌}
use Rattle.bearer.specs.Losses.{Gap, gap, outside, gaps, size_of, lowest}

-- nothing is between c and itself, or less
outside_all : (c l o : ℕ) → l ≤ c → outside c l o ≡ true
outside_all c l o h = by_test (ltb o c) refl
  where
    by_test : (t : Bool) → ltb o c ≡ t → outside c l o ≡ true
    by_test true e = rw e
    by_test false e = let g : c ≤ o = ltb-false o c e in rw (e, le-leb l o (omega arith))

-- below c there is no gap from c on
pub gaps_none : (c l : ℕ) (os : List ℕ) → l ≤ c → gaps c l os ≡ []
gaps_none c l [] h = rw (le-ltb c l h)
gaps_none c l (o ∷ os) h = rw (outside_all c l o h) (gaps_none c l os h)

-- a gap is one or none
pub gap_count : (c l : ℕ) → length (gap c l) ≤ 1
gap_count c l = by_test (ltb c l)
  where
    by_test : (t : Bool) → length {A = Gap} (if t then record { from = c; to = l } ∷ [] else []) ≤ 1
    by_test true = omega arith
    by_test false = omega arith

-- each number leaves one gap at most
pub gaps_count : (c l : ℕ) (os : List ℕ) → length (gaps c l os) ≤ suc (length os)
gaps_count c l [] = gap_count c l
gaps_count c l (o ∷ os) = by_test (outside c l o) (gaps_count c l os) (gaps_count (suc o) l os)
  where
    by_test : (t : Bool) → length (gaps c l os) ≤ suc (length os) → length (gaps (suc o) l os) ≤ suc (length os)
        → length ((if t then [] else gap c o) ++ gaps (if t then c else suc o) l os) ≤ suc (suc (length os))
    by_test true h k = omega arith
    by_test false h k = omega (arith, length-append (gap c o) (gaps (suc o) l os), gap_count c o)

-- a gap holds what is between its ends, and gaps behind it hold theirs
size_gap : (c l : ℕ) (gs : List Gap) → size_of (gap c l ++ gs) ≡ (l - c) + size_of gs
size_gap c l gs = by_test (ltb c l) refl
  where
    by_test : (t : Bool) → ltb c l ≡ t → size_of ((if t then record { from = c; to = l } ∷ [] else []) ++ gs) ≡ (l - c) + size_of gs
    by_test true e = refl
    by_test false e = let h : l ≤ c = ltb-false c l e in omega arith

-- together they hold no more numbers than are between c and l
pub gaps_size : (c l : ℕ) (os : List ℕ) → size_of (gaps c l os) ≤ l - c
gaps_size c l [] = rw (← append-nil (gap c l)) (omega (arith, size_gap c l []))
gaps_size c l (o ∷ os) = by_test (ltb o c) (leb l o) refl refl (gaps_size c l os) (gaps_size (suc o) l os)
  where
    by_test : (s t : Bool) → ltb o c ≡ s → leb l o ≡ t → size_of (gaps c l os) ≤ l - c → size_of (gaps (suc o) l os) ≤ l - suc o
        → size_of ((if s or t then [] else gap c o) ++ gaps (if s or t then c else suc o) l os) ≤ l - c
    by_test true t d e h k = h
    by_test false true d e h k = h
    by_test false false d e h k =
        let from : c ≤ o = ltb-false o c d in
        let to : o < l = leb-false l o e in
        omega (arith, size_gap c o (gaps (suc o) l os))

-- a number behind the others
pub lowest_snoc : (c : ℕ) (os : List ℕ) (o : ℕ) → lowest c (os ++ (o ∷ [])) ≡ (if eqb o (lowest c os) then suc (lowest c os) else lowest c os)
lowest_snoc c [] o = refl
lowest_snoc c (x ∷ os) o = lowest_snoc (if eqb x c then suc c else c) os o
