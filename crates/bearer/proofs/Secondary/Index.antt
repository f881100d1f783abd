-- The secondary's machine once more, on packet indexes that never roll over: the same steps with plain differences where
-- specs/Keeper.antt has distances on a circle. It is a step of the proof and no statement rests on it: Image.antt shows that the machine
-- does the same, and Follows.antt that it is what the rule says.
-- Assumes nothing.
use Rattle.std.specs.Prelude.{if◌then◌else◌}
use mathlib.Core.Bool.{Bool, true, false}
use mathlib.Core.List.{List, [], ◌∷◌, ◌++◌, map}
use Prim.Native.Nat.{ℕ, zero, suc, ◌+◌, ◌-◌, max}
use lib.Dec.{ltb, leb, eqb}
use lib.ListN.{length, get_or, drop, set}
use Rattle.basics.specs.Basics.{◌and◌, ◌or◌}
use Rattle.basics.proofs.Lists.{inserted}
use Rattle.frame_layout.specs.Frames.{most_ranges}
use Rattle.bearer.specs.Bearer.{After, refusing, answering, window, most_runs, most_records}
use Rattle.bearer.specs.Losses.{Gap, gaps, size_of, lowest, front_of}
use Rattle.bearer.specs.Keeper.{Keeper, limit_of, run_with}
use Rattle.bearer.specs.Packets.{number_of}
use Rattle.bearer.specs.Account.{Held, run_at, indexes}
use Rattle.bearer.specs.KeeperMeaning.{record_at}
use Rattle.bearer.proofs.Lists.Elements.{ends_in}

-- the secondary's end on indexes
pub record Indexed : Type 0 where
  pub base : ℕ
  pub reported : ℕ
  pub closed : Bool
  pub runs : List Gap
  pub records : List Held

-- a fresh end on indexes, with its reported highest
abbrev pub fresh_indexed : ℕ → Indexed
fresh_indexed reported = record {
  base = 0;
  reported = reported;
  closed = false;
  runs = [];
  records = [];
}

-- a state whose parts that calls change are put anew; beside a fresh end, the one place that says every field
abbrev pub changed : Indexed → ℕ → ℕ → Bool → List Gap → List Held → Indexed
changed a base reported closed runs records = record {
  base = base;
  reported = reported;
  closed = closed;
  runs = runs;
  records = records;
}

-- ... with another base
infixl 20 ◌with_base◌
abbrev pub ◌with_base◌ : Indexed → ℕ → Indexed
◌with_base◌ a base = changed a base a.reported a.closed a.runs a.records

-- ... with another reported highest
infixl 20 ◌with_reported◌
abbrev pub ◌with_reported◌ : Indexed → ℕ → Indexed
◌with_reported◌ a reported = changed a a.base reported a.closed a.runs a.records

-- ... closed or not
infixl 20 ◌with_closed◌
abbrev pub ◌with_closed◌ : Indexed → Bool → Indexed
◌with_closed◌ a closed = changed a a.base a.reported closed a.runs a.records

-- ... with other listed runs
infixl 20 ◌with_runs◌
abbrev pub ◌with_runs◌ : Indexed → List Gap → Indexed
◌with_runs◌ a runs = changed a a.base a.reported a.closed runs a.records

-- ... with other records
infixl 20 ◌with_records◌
abbrev pub ◌with_records◌ : Indexed → List Held → Indexed
◌with_records◌ a records = changed a a.base a.reported a.closed a.runs records

-- the machine's state of it: the one place that maps a state
abbrev pub image : ℕ → ℕ → Indexed → Keeper
image L first a = record {
  bits = L;
  base = number_of L first a.base;
  reported = a.reported;
  closed = a.closed;
  runs = map (run_at L first) a.runs;
  records = map (record_at L first) a.records;
}

-- the same answer, and the machine's state
abbrev pub image_after : {A : Type 0} → ℕ → ℕ → After Indexed A → After Keeper A
image_after L first x = record { answer = x.answer; state = image L first x.state }

-- ---- the state, seen from base

abbrev pub first_back : ℕ → List ℕ → ℕ
first_back base [] = 0
first_back base (j ∷ js) = base - j

abbrev pub froms : List Gap → List ℕ
froms gs = map (λ (g : Gap). g.from) gs

abbrev pub floor_i : Indexed → ℕ
floor_i a = max (first_back a.base (froms a.runs)) (first_back a.base (indexes a.records))

abbrev pub place_i : Indexed → ℕ → ℕ
place_i a i = front_of (λ (j : ℕ). ltb i j) (indexes a.records)

abbrev pub has_i : Indexed → ℕ → ℕ → Bool
has_i a i p = ends_in (indexes a.records) i p

-- how far indexes are past base
abbrev pub past_base : ℕ → List ℕ → List ℕ
past_base base js = map (λ (j : ℕ). j - base) js

abbrev pub above_i : Indexed → List ℕ
above_i a = past_base a.base (drop (front_of (λ (j : ℕ). leb a.base j) (indexes a.records)) (indexes a.records))

abbrev pub given_up_i : Indexed → ℕ → List Gap
given_up_i a l = gaps 0 l (above_i a)

-- a gap of distances from base as one of indexes
abbrev pub gap_at : ℕ → Gap → Gap
gap_at base g = record { from = base + g.from; to = base + g.to }

abbrev pub joined_i : List Gap → Gap → List Gap
joined_i [] r = r ∷ []
joined_i (x ∷ []) r = if eqb x.to r.from then record { from = x.from; to = r.to } ∷ [] else (x ∷ r ∷ [])
joined_i (x ∷ y ∷ ys) r = x ∷ joined_i (y ∷ ys) r

abbrev pub runs_joined_i : List Gap → List Gap → List Gap
runs_joined_i runs [] = runs
runs_joined_i runs (r ∷ rs) = joined_i runs r ++ rs

abbrev pub runs_after_i : Indexed → ℕ → List Gap
runs_after_i a l = runs_joined_i a.runs (map (gap_at a.base) (given_up_i a l))

abbrev pub base_after_i : Indexed → ℕ → ℕ
base_after_i a l = a.base + lowest l (above_i a)

abbrev pub raised_base_i : Indexed → ℕ → ℕ → ℕ
raised_base_i a l top = a.base + lowest l (above_i a ++ (top ∷ []))

-- ---- arrival of packet base + d

abbrev pub arrived_base_i : Indexed → ℕ → ℕ → ℕ
arrived_base_i a p d =
    if eqb d 0 then a.base + lowest 1 (past_base a.base (drop p (indexes a.records))) else
    (if ltb d window then a.base else
    raised_base_i a (limit_of d) d)

-- the record of an arrival: the handset hasn't it yet
abbrev pub new_held : ℕ → ℕ → Held
new_held i pdcp = record { index = i; pdcp = pdcp; confirmed = false }

-- the state after an accepted arrival, whose record stands at the place p
abbrev pub arrived_i : Indexed → ℕ → ℕ → ℕ → Indexed
arrived_i a pdcp p d = a with_base arrived_base_i a p d with_runs runs_after_i a (limit_of d) with_records inserted p (new_held (a.base + d) pdcp) a.records

-- 12, 13, 14, 15, or how many became lost; half the circle is the one thing of the circle that is left
abbrev pub arrive_i : ℕ → Indexed → ℕ → ℕ → ℕ → After Indexed ℕ
arrive_i h a pdcp p d =
    if has_i a (a.base + d) p then refusing 12 a else
    (if leb h (floor_i a + d) then refusing 13 a else
    (if ltb most_runs (length (runs_after_i a (limit_of d))) then refusing 14 a else
    (if leb most_records (length a.records) then refusing 15 a else
    answering (size_of (given_up_i a (limit_of d))) (arrived_i a pdcp p d))))

-- ---- expiry with the mark base + d

-- packet i is beyond the last of others; and so it is where that is before base, or where there is none
abbrev pub beyond_i : ℕ → List ℕ → ℕ → Bool
beyond_i base [] i = true
beyond_i base (j ∷ []) i = ltb j base or ltb j i
beyond_i base (j ∷ l ∷ ls) i = beyond_i base (l ∷ ls) i

-- the state when all below the distance d is given up
abbrev pub expired_i : Indexed → ℕ → Indexed
expired_i a d = a with_base base_after_i a d with_runs runs_after_i a d

-- by how far the mark is past base, a packet before which something is open: 14, or how many became lost
abbrev pub expire_i : Indexed → ℕ → After Indexed ℕ
expire_i a d =
    if ltb most_runs (length (runs_after_i a d)) then refusing 14 a else
    answering (size_of (given_up_i a d)) (expired_i a d)

-- ---- confirm of packet i

abbrev pub no_held : Held
no_held = record { index = 0; pdcp = 0; confirmed = false }

abbrev pub delivered_i : Held → Held
delivered_i h = record { index = h.index; pdcp = h.pdcp; confirmed = true }

-- the state when the record at a place is confirmed
abbrev pub confirmed_i : Indexed → ℕ → Indexed
confirmed_i a p = a with_records set a.records p (delivered_i (get_or a.records p no_held))

-- ---- status

abbrev pub may_go_i : List Gap → Held → Bool
may_go_i [] h = h.confirmed
may_go_i (x ∷ xs) h = h.confirmed and ltb h.index x.from

abbrev pub let_go_i : Indexed → ℕ
let_go_i a = run_with (may_go_i (drop most_ranges a.runs)) a.records

abbrev pub highest_i : Indexed → ℕ → ℕ
highest_i a zero = a.reported
highest_i a (suc p) = (get_or a.records p no_held).pdcp

-- the state after a status
abbrev pub reported_i : Indexed → Bool → Indexed
reported_i a final = a with_reported highest_i a (let_go_i a) with_closed final with_runs drop most_ranges a.runs with_records drop (let_go_i a) a.records
