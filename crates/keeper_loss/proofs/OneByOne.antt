-- Gaps, and what is told of them, one number or one gap at a time. No code goes so today; the laws stand.
-- Assumes nothing.
use Rattle.std.specs.Prelude.{Option, Some, None, if◌then◌else◌}
use mathlib.Core.Path.{◌≡◌, refl}
use mathlib.Core.Bool.{Bool, true, false}
use mathlib.Core.List.{List, [], ◌∷◌, ◌++◌}
use Prim.Native.Nat.{ℕ, suc, ◌+◌, ◌-◌, ◌≤◌}
use native.Mathlib.Omega.{arith}
use native.Mathlib.Numerals.{add-one}
use native.Mathlib.Nat.{zero-add, add-zero, add_assoc}
use lib.Dec.{eqb}
use lib.ListN.{length}
use borrow.Author.Tests.{ne_eqb}
use Rattle.bearer.specs.Losses.{Gap, gap, outside, gaps, size_of}
use Rattle.keeper_loss.specs.Tally.{told}
use Rattle.keeper_loss.specs.declared.GivenUp.{GivenUp}
use Rattle.keeper_loss.proofs.Bounds.{gaps_none}

-- ---- one number more, at the distance o

-- the gap from c on that it leaves below l ends there: at c, so that it holds nothing, for one outside
abbrev pub gap_end : ℕ → ℕ → ℕ → ℕ
gap_end c l o = if outside c l o then c else o

-- the next gap starts there
abbrev pub past_of : ℕ → ℕ → ℕ → ℕ
past_of c l o = if outside c l o then c else suc o

pub gap_none : (c l : ℕ) → l ≤ c → gap c l ≡ []
gap_none c l h = gaps_none c l [] h

-- gaps, one number at a time
pub gaps_more : (c l o : ℕ) (os : List ℕ) → gaps c l (o ∷ os) ≡ gap c (gap_end c l o) ++ gaps (past_of c l o) l os
gaps_more c l o os = by_test (outside c l o)
  where
    by_test : (t : Bool) → (if t then [] else gap c o) ++ gaps (if t then c else suc o) l os ≡ gap c (if t then c else o) ++ gaps (if t then c else suc o) l os
    by_test true = rw (gap_none c c (omega arith))
    by_test false = refl

-- ---- what is told of gaps

-- one gap more
abbrev pub with_gap : GivenUp → Gap → GivenUp
with_gap sum g = record { gaps = sum.gaps + 1; numbers = sum.numbers + (g.to - g.from); first = if eqb sum.gaps 0 then Some g.from else sum.first }

-- gaps behind others of which it is told already
abbrev pub tallied : GivenUp → List Gap → GivenUp
tallied sum [] = sum
tallied sum (g ∷ gs) = tallied (with_gap sum g) gs

tallied_more : (n s : ℕ) (f : Option ℕ) (gs : List Gap)
    → tallied (record { gaps = suc n; numbers = s; first = f }) gs ≡ record { gaps = suc n + length gs; numbers = s + size_of gs; first = f }
tallied_more n s f [] = simp add-zero
tallied_more n s f (g ∷ gs) =
    let e : suc (suc n) + length gs ≡ suc n + suc (length gs) = omega arith in
    let d : s + (g.to - g.from) + size_of gs ≡ s + (g.to - g.from + size_of gs) = add_assoc s (g.to - g.from) (size_of gs) in
    let z : eqb (suc n) 0 ≡ false = ne_eqb (suc n) 0 (λ (x : suc n ≡ 0). omega arith) in
    rw (z, add-one (suc n), ← e, ← d) (tallied_more (suc n) (s + (g.to - g.from)) f gs)

pub told_all : (gs : List Gap) → tallied (record { gaps = 0; numbers = 0; first = None }) gs ≡ told gs
told_all [] = refl
told_all (g ∷ gs) =
    let e : 1 + length gs ≡ suc (length gs) = omega arith in
    rw (zero-add (g.to - g.from), ← e) (tallied_more 0 (g.to - g.from) (Some g.from) gs)
