-- Starts and ends as ranges: parts of the two lists are parts of the ranges.
-- Assumes nothing.
use mathlib.Core.Path.{◌≡◌, refl, sym, ap}
use mathlib.Core.List.{List, [], ◌∷◌, ◌++◌}
use Prim.Native.Nat.{ℕ, zero, suc, ◌≤◌, min}
use native.Mathlib.Omega.{arith}
use lib.ListN.{length, take, drop}
use Rattle.frame_layout.specs.Frames.{Range, ranges_of, starts_of, ends_of}

-- the first ranges are those of the first starts and ends
pub ranges_take : (n : ℕ) (ss es : List ℕ) → take n (ranges_of ss es) ≡ ranges_of (take n ss) (take n es)
ranges_take zero ss es = refl
ranges_take (suc n) [] es = refl
ranges_take (suc n) (s ∷ ss) [] = refl
ranges_take (suc n) (s ∷ ss) (e ∷ es) = ap (λ (rs : List Range). record { start = s; end = e } ∷ rs) (ranges_take n ss es)

-- no runs without ends
ranges_nothing : (ss : List ℕ) → ranges_of ss [] ≡ []
ranges_nothing [] = refl
ranges_nothing (s ∷ ss) = refl

-- and so are those behind
pub ranges_drop : (n : ℕ) (ss es : List ℕ) → drop n (ranges_of ss es) ≡ ranges_of (drop n ss) (drop n es)
ranges_drop zero ss es = refl
ranges_drop (suc n) [] es = refl
ranges_drop (suc n) (s ∷ ss) [] = sym (ranges_nothing (drop n ss))
ranges_drop (suc n) (s ∷ ss) (e ∷ es) = ranges_drop n ss es

-- runs behind others
pub ranges_append : (ss es ss' es' : List ℕ) → length ss ≡ length es → ranges_of (ss ++ ss') (es ++ es') ≡ ranges_of ss es ++ ranges_of ss' es'
ranges_append [] [] ss' es' h = refl
ranges_append [] (e ∷ es) ss' es' h = absurd (omega arith)
ranges_append (s ∷ ss) [] ss' es' h = absurd (omega arith)
ranges_append (s ∷ ss) (e ∷ es) ss' es' h = ap (λ (rs : List Range). record { start = s; end = e } ∷ rs) (ranges_append ss es ss' es' (omega arith))

-- runs are those of their own starts and ends
pub ranges_own : (rs : List Range) → ranges_of (starts_of rs) (ends_of rs) ≡ rs
ranges_own [] = refl
ranges_own (r ∷ rs) = ap (λ (l : List Range). r ∷ l) (ranges_own rs)

-- a list is the ends of runs
pub ends_own : (es : List ℕ) → ends_of (ranges_of es es) ≡ es
ends_own [] = refl
ends_own (e ∷ es) = ap (λ (l : List ℕ). e ∷ l) (ends_own es)

-- there are as many ranges as there are of both
pub ranges_count : (ss es : List ℕ) → length (ranges_of ss es) ≡ min (length ss) (length es)
ranges_count [] es = omega arith
ranges_count (s ∷ ss) [] = omega arith
ranges_count (s ∷ ss) (e ∷ es) = omega (arith, ranges_count ss es)

-- ---- the first n ranges of starts and ends, where there are so many of both

-- their starts are the first starts
pub starts_listed : (n : ℕ) (ss es : List ℕ) → n ≤ length ss → n ≤ length es → starts_of (take n (ranges_of ss es)) ≡ take n ss
starts_listed zero ss es hs he = refl
starts_listed (suc n) [] es hs he = absurd (omega arith)
starts_listed (suc n) (s ∷ ss) [] hs he = absurd (omega arith)
starts_listed (suc n) (s ∷ ss) (e ∷ es) hs he = ap (λ (l : List ℕ). s ∷ l) (starts_listed n ss es (omega arith) (omega arith))

-- their ends are the first ends
pub ends_listed : (n : ℕ) (ss es : List ℕ) → n ≤ length ss → n ≤ length es → ends_of (take n (ranges_of ss es)) ≡ take n es
ends_listed zero ss es hs he = refl
ends_listed (suc n) [] es hs he = absurd (omega arith)
ends_listed (suc n) (s ∷ ss) [] hs he = absurd (omega arith)
ends_listed (suc n) (s ∷ ss) (e ∷ es) hs he = ap (λ (l : List ℕ). e ∷ l) (ends_listed n ss es (omega arith) (omega arith))
