-- How numbers lie to each other, where they lie as seen from base, and what is given up: definitions on lists of numbers of a circle of M, for the
-- secondary's machine (Keeper.antt). Two numbers are compared by how one lies to the other (the crate circle, Sides.antt); distances are
-- forward from base. Every definition is total.
-- Assumes nothing.
use Rattle.std.specs.Prelude.{Bool, true, false, not, List, [], ◌∷◌, ◌++◌, map, ℕ, zero, suc, ◌+◌, ◌-◌, ◌%◌, max, ltb, leb, eqb, get_or, drop, if◌then◌else◌}
use Rattle.circle.specs.Circle.{forward}
use Rattle.circle.specs.Sides.{Side, same, ahead, behind, opposite, lies}
use Rattle.basics.specs.Basics.{◌and◌, ◌or◌, all}
use Rattle.frame_layout.specs.Frames.{Range}

-- ---- where numbers lie

-- what lies behind a number or opposite it lies before it
abbrev pub is_before : Side → Bool
is_before same = false
is_before ahead = false
is_before behind = true
is_before opposite = true

-- n lies before a: "A record or listed number opposite base still lies before it."
abbrev pub before : ℕ → ℕ → ℕ → Bool
before M a n = is_before (lies M a n)

-- how far a number that lies before base is behind it; 0 for any other
abbrev pub far_behind : ℕ → ℕ → ℕ → ℕ
far_behind M base n = if before M base n then forward M n base else 0

-- a number lies ahead of another
abbrev pub is_ahead : Side → Bool
is_ahead same = false
is_ahead ahead = true
is_ahead behind = false
is_ahead opposite = false

-- n lies ahead of a
abbrev pub ahead_of : ℕ → ℕ → ℕ → Bool
ahead_of M a n = is_ahead (lies M a n)

-- n is a or lies ahead of it
abbrev pub from_on : ℕ → ℕ → ℕ → Bool
from_on M a n = not (before M a n)

-- how many elements stand in front of the longest end of a list all of which has a property
abbrev pub front_of : {A : Type 0} → (A → Bool) → List A → ℕ
front_of p [] = 0
front_of p (x ∷ xs) = if all p (x ∷ xs) then 0 else suc (front_of p xs)

-- how far the first number of a list is behind base; 0 for none
abbrev pub first_behind : ℕ → ℕ → List ℕ → ℕ
first_behind M base [] = 0
first_behind M base (n ∷ ns) = far_behind M base n

-- how far floor, the earliest of base and the first numbers of two lists, is behind base
abbrev pub floor_behind : ℕ → ℕ → List ℕ → List ℕ → ℕ
floor_behind M base ms ns = max (first_behind M base ms) (first_behind M base ns)

-- where in a list a number belongs: in front of the last ones that all lie ahead of it
abbrev pub place_in : ℕ → List ℕ → ℕ → ℕ
place_in M ns n = front_of (ahead_of M n) ns

-- the number in front of a place of a list is n
abbrev pub bears_before : List ℕ → ℕ → ℕ → Bool
bears_before ns n zero = false
bears_before ns n (suc i) = eqb (get_or ns i 0) n

-- n lies beyond the last number of a list; and so it does where that lies before base, or where there is none
abbrev pub is_beyond : ℕ → ℕ → List ℕ → ℕ → Bool
is_beyond M base [] n = true
is_beyond M base (m ∷ []) n = before M base m or ahead_of M m n
is_beyond M base (m ∷ l ∷ ls) n = is_beyond M base (l ∷ ls) n

-- how far numbers are forward from base
abbrev pub offsets : ℕ → ℕ → List ℕ → List ℕ
offsets M base ns = map (forward M base) ns

-- those at the end of a list that all are base or lie ahead of it
abbrev pub from_base : ℕ → ℕ → List ℕ → List ℕ
from_base M base ns = drop (front_of (from_on M base) ns) ns

-- how far those are forward from base
abbrev pub above_base : ℕ → ℕ → List ℕ → List ℕ
above_base M base ns = offsets M base (from_base M base ns)

-- ---- gaps between records, by their distances from base

-- the numbers from one distance up to, and without, another
pub record Gap : Type 0 where
  pub from : ℕ
  pub to : ℕ

-- the gap from c up to l, if it holds a number
abbrev pub gap : ℕ → ℕ → List Gap
gap c l = if ltb c l then record { from = c; to = l } ∷ [] else []

-- a distance that is not from c up to l
abbrev pub outside : ℕ → ℕ → ℕ → Bool
outside c l o = ltb o c or leb l o

-- the gaps below l that records at these distances leave, from c on
abbrev pub gaps : ℕ → ℕ → List ℕ → List Gap
gaps c l [] = gap c l
gaps c l (o ∷ os) = (if outside c l o then [] else gap c o) ++ gaps (if outside c l o then c else suc o) l os

-- what is given up below the distance l where these numbers have records: each open number there is lost
abbrev pub lost_below : ℕ → ℕ → List ℕ → ℕ → List Gap
lost_below M base ns l = gaps 0 l (above_base M base ns)

-- how many numbers gaps hold
abbrev pub size_of : List Gap → ℕ
size_of [] = 0
size_of (g ∷ gs) = (g.to - g.from) + size_of gs

-- the lowest distance from c on at which there is no record
abbrev pub lowest : ℕ → List ℕ → ℕ
lowest c [] = c
lowest c (o ∷ os) = lowest (if eqb o c then suc c else c) os

-- the base when all below the distance l is given up, records lie at these distances, and one at the distance top
abbrev pub raised_base : ℕ → ℕ → List ℕ → ℕ → ℕ → ℕ
raised_base M base os l top = (base + lowest l (os ++ (top ∷ []))) % M

-- ---- runs of lost numbers

-- the numbers of a gap as a run
abbrev pub run_of : ℕ → ℕ → Gap → Range
run_of M base g = record { start = (base + g.from) % M; end = (base + (g.to - 1)) % M }

-- gaps as runs
abbrev pub runs_of : ℕ → ℕ → List Gap → List Range
runs_of M base gs = map (run_of M base) gs

-- the runs of what is given up below the distance l
abbrev pub new_runs : ℕ → ℕ → List ℕ → ℕ → List Range
new_runs M base ns l = runs_of M base (lost_below M base ns l)

-- a run with this start adjoins one with this end
abbrev pub adjoins : ℕ → ℕ → ℕ → Bool
adjoins M end start = eqb (forward M end start) 1

-- runs in sending order and one more behind them: where it adjoins the last, the two are one run
abbrev pub joined : ℕ → List Range → Range → List Range
joined M [] r = r ∷ []
joined M (x ∷ []) r = if adjoins M x.end r.start then record { start = x.start; end = r.end } ∷ [] else (x ∷ r ∷ [])
joined M (x ∷ y ∷ ys) r = x ∷ joined M (y ∷ ys) r

-- runs with new ones behind them: only the first of those can adjoin the last that was there
abbrev pub runs_joined : ℕ → List Range → List Range → List Range
runs_joined M runs [] = runs
runs_joined M runs (r ∷ rs) = joined M runs r ++ rs

-- a number that is confirmed or not may go with a status if it is, and lies before the first run left out, by the starts of those
abbrev pub goes_before : ℕ → List ℕ → ℕ → Bool → Bool
goes_before M [] n confirmed = confirmed
goes_before M (s ∷ ss) n confirmed = confirmed and before M s n
