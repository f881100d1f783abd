-- Lists of numbers at their last element.
-- Assumes nothing.
use mathlib.Core.Path.{◌≡◌}
use mathlib.Core.List.{List, [], ◌∷◌}
use Prim.Native.Nat.{ℕ, zero, suc, ◌+◌}
use native.Mathlib.Omega.{arith}
use lib.ListN.{length, get_or}
use Rattle.bearer.specs.Losses.{adjoins}
use Rattle.keeper_judge.specs.Judgements.{adjoins_last}

-- a run adjoins the last of some
pub adjoins_at : (M start : ℕ) (es : List ℕ) (i : ℕ) → i + 1 ≡ length es → adjoins_last M es start ≡ adjoins M (get_or es i 0) start
adjoins_at M start [] i h = absurd (omega arith)
adjoins_at M start (e ∷ []) i h = let z : i ≡ 0 = omega arith in rw z
adjoins_at M start (e ∷ f ∷ es) zero h = absurd (omega arith)
adjoins_at M start (e ∷ f ∷ es) (suc i) h = adjoins_at M start (f ∷ es) i (omega arith)
