-- What passes over a list of numbers tell of gaps.
-- Assumes nothing.
use Rattle.std.specs.Prelude.{List, [], ◌∷◌, ℕ, ltb, length, Option, Some, None, if◌then◌else◌}
use Rattle.circle.specs.Lengths.{modulus, length_in, is_long}
use Rattle.bearer.specs.Losses.{Gap, size_of, gaps, offsets}
use Rattle.bearer.specs.Keeper.{index_of}
use Rattle.keeper_state.specs.declared.Words.{Words}
use Rattle.keeper_loss.specs.declared.GivenUp.{GivenUp}
use Rattle.keeper_loss.specs.declared.Point.{Point}
use Rattle.keeper_loss.specs.declared.gaps.Gap as G
use Rattle.keeper_loss.specs.declared.gaps.Gaps.{Gaps}

-- base, as words say it
abbrev pub base_in : Words → Point
base_in w = record { at = w.base; long = is_long (length_in w.bits) }

-- where a number first stands in a list, if it does
abbrev pub found : ℕ → List ℕ → Option ℕ
found n ns = if ltb (index_of n ns) (length ns) then Some (index_of n ns) else None

-- ---- gaps, one after another

-- a gap
abbrev pub gap_of : G.Gap → Gap
gap_of g = record { from = g.from; to = g.to }

-- those that are left
abbrev pub gaps_left : Gaps → List Gap
gaps_left g = gaps g.from g.limit (offsets (modulus g.point.long) g.point.at g.numbers.now)

-- ---- what is told of gaps

-- where the first gap starts
abbrev pub first_from : List Gap → Option ℕ
first_from [] = None
first_from (g ∷ gs) = Some g.from

-- how many gaps and numbers, and where the first gap starts
abbrev pub told : List Gap → GivenUp
told gs = record { gaps = length gs; numbers = size_of gs; first = first_from gs }
