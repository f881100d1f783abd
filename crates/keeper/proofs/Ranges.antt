-- The first runs of starts and ends, when both lists lose those that a status carries.
-- Assumes nothing.
use mathlib.Core.Path.{◌≡◌, sym, ◌∙◌}
use mathlib.Core.List.{List}
use Prim.Native.Nat.{ℕ, ◌-◌, min}
use native.Mathlib.Omega.{arith}
use lib.ListN.{take, drop}
use Rattle.frame_layout.specs.Frames.{ranges_of, most_ranges}
use Rattle.bearer.specs.Bearer.{most_runs}
use Rattle.frame_layout.proofs.Ranges.{ranges_take, ranges_drop}
use Rattle.keeper.proofs.Parts.{drop_both}

-- as many as a word says are listed
pub ranges_left : (ss es ss' es' : List ℕ) (word listed carried : ℕ) → listed ≡ min word most_runs → carried ≡ min listed most_ranges
    → take (listed - carried) ss' ≡ drop carried (take listed ss) → take (listed - carried) es' ≡ drop carried (take listed es)
    → take (min (listed - carried) most_runs) (ranges_of ss' es') ≡ drop most_ranges (take (min word most_runs) (ranges_of ss es))
ranges_left ss es ss' es' word listed carried l c e f =
    let all : min (listed - carried) most_runs ≡ listed - carried = omega arith in
    rw (all, ← l, ranges_take (listed - carried) ss' es', e, f)
    (sym (ranges_drop carried (take listed ss) (take listed es)) ∙ rw (← ranges_take listed ss es, c) (drop_both listed most_ranges (ranges_of ss es)))
