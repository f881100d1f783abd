-- The secondary's rule, whole, in document 01's own sentences, as document 02's requests changed them, on packet indexes that never roll over:
-- what its accepted calls make of the packets' fates (Rule.antt), of the records, of what was reported and of the end itself. Nothing that the
-- machines do is used here.
-- Assumes nothing.
use Rattle.std.specs.Prelude.{◌≡◌, Bool, true, false, List, [], ◌∷◌, ◌++◌, map, ℕ, zero, suc, ◌+◌, ◌-◌, ◌<◌, ltb, eqb, length, take, drop, if◌then◌else◌}
use Rattle.basics.specs.Basics.{◌and◌, ◌or◌, some_in}
use Rattle.circle.specs.Lengths.{is_long}
use Rattle.frame_layout.specs.Frames.{Range, Status}
use Rattle.bearer.specs.Losses.{Gap}
use Rattle.bearer.specs.Rule.{Fates, all_open, arrival, expiry}
use Rattle.bearer.specs.Packets.{number_of, one_before, Rising, last_of}

-- a packet with a record: its index, its PDCP number, and whether the handset has it
pub record Held : Type 0 where
  pub index : ℕ
  pub pdcp : ℕ
  pub confirmed : Bool

-- a secondary's end by packets: what became of each, how many of the lost were reported, the records in sending order, the reported highest,
-- and whether a status had Final
pub record Account : Type 0 where
  pub fates : Fates
  pub told : ℕ
  pub records : List Held
  pub reported : ℕ
  pub final : Bool

-- "Reported highest" starts at f - 1 modulo 2^L: every packet is open, and nothing else has happened
abbrev pub begun : ℕ → ℕ → Account
begun L f = record {
  fates = all_open;
  told = 0;
  records = [];
  reported = one_before L f;
  final = false;
}

-- an account whose parts are put anew; beside a begun one, the one place that says every field
abbrev pub changed : Fates → ℕ → List Held → ℕ → Bool → Account
changed fates told records reported final = record {
  fates = fates;
  told = told;
  records = records;
  reported = reported;
  final = final;
}

-- ... with other fates
infixl 20 ◌with_fates◌
abbrev pub ◌with_fates◌ : Account → Fates → Account
◌with_fates◌ a fates = changed fates a.told a.records a.reported a.final

-- ... with other records
infixl 20 ◌with_records◌
abbrev pub ◌with_records◌ : Account → List Held → Account
◌with_records◌ a records = changed a.fates a.told records a.reported a.final

-- the packets of records
abbrev pub indexes : List Held → List ℕ
indexes hs = map (λ (h : Held). h.index) hs

-- ---- runs of packets

-- the packets from one on, so many
abbrev pub packets_from : ℕ → ℕ → List ℕ
packets_from i zero = []
packets_from i (suc c) = i ∷ packets_from (suc i) c

-- the packets of runs, each from one up to, and without, another, in order
abbrev pub packets_of : List Gap → List ℕ
packets_of [] = []
packets_of (g ∷ gs) = packets_from g.from (g.to - g.from) ++ packets_of gs

-- runs in sending order, none empty, with at least one packet between each and the next: none could be joined
abbrev pub Maximal : List Gap → Type 0
Maximal [] = Unit
Maximal (g ∷ []) = g.from < g.to
Maximal (g ∷ h ∷ gs) = (g.from < g.to) × (g.to < h.from) × Maximal (h ∷ gs)

-- a packet in front of runs: where it adjoins the first, the two are one run
abbrev pub joining : ℕ → List Gap → List Gap
joining i [] = record { from = i; to = suc i } ∷ []
joining i (g ∷ gs) = if eqb (suc i) g.from then record { from = i; to = g.to } ∷ gs else record { from = i; to = suc i } ∷ g ∷ gs

-- packets in sending order as runs: "Adjacent numbers join."
abbrev pub runs_in : List ℕ → List Gap
runs_in [] = []
runs_in (i ∷ is) = joining i (runs_in is)

-- these are the maximal runs of packets in sending order: they hold exactly those, and none could be joined
abbrev pub RunsMaximal : Type 0
RunsMaximal = (is : List ℕ) → Rising is → (packets_of (runs_in is) ≡ is) × Maximal (runs_in is)

-- the packets lost and not reported yet
abbrev pub untold : ℕ → Fates → List ℕ
untold told r = drop told r.lost

-- "Listed runs are the maximal runs of lost, unreported numbers, in sending order."
abbrev pub listed : Account → List Gap
listed a = runs_in (untold a.told a.fates)

-- ---- arrival, expiry and confirm

-- a record among records in sending order
abbrev pub recorded : Held → List Held → List Held
recorded h [] = h ∷ []
recorded h (x ∷ xs) = if ltb h.index x.index then h ∷ x ∷ xs else x ∷ recorded h xs

-- "Arrival of number and PDCP number adds a record, then declares lost each open number that is 256 or more below the arrival."
abbrev pub arriving : Account → ℕ → ℕ → Account
arriving a i p = a with_fates arrival a.fates i with_records recorded (record { index = i; pdcp = p; confirmed = false }) a.records

-- "Expiry now takes a mark, .. and declares lost only open numbers before it."
abbrev pub expiring : Account → ℕ → Account
expiring a mark = a with_fates expiry a.fates mark

-- the record of packet i, delivered to the handset; any other as it is
abbrev pub delivered_if : ℕ → Held → Held
delivered_if i h = if eqb h.index i then record { index = h.index; pdcp = h.pdcp; confirmed = true } else h

-- "Confirm marks a record before base as delivered to the handset."
abbrev pub confirming : Account → ℕ → Account
confirming a i = a with_records map (delivered_if i) a.records

-- ---- status

-- document 01's figure, written here again on purpose: an edit of the machine's must not move the rule
abbrev pub most_carried : ℕ
most_carried = 162

-- "It carries the first 162 runs, or all if fewer."
abbrev pub carried : Account → List Gap
carried a = take most_carried (listed a)

-- the runs left out
abbrev pub left_out : Account → List Gap
left_out a = drop most_carried (listed a)

-- a packet lies before the first run left out, if there is one
abbrev pub before_first : List Gap → ℕ → Bool
before_first [] i = true
before_first (g ∷ gs) i = ltb i g.from

-- how many of records, in sending order, are such that it and every record before it are confirmed and lie before the first run left out
abbrev pub going_of : List Gap → List Held → ℕ
going_of left [] = 0
going_of left (h ∷ hs) = if h.confirmed and before_first left h.index then suc (going_of left hs) else 0

-- the records that go with a status
abbrev pub going : Account → List Held
going a = take (going_of (left_out a) a.records) a.records

-- the PDCP number of the last of records; another where there is none
abbrev pub last_pdcp : ℕ → List Held → ℕ
last_pdcp p hs = last_of p (map (λ (h : Held). h.pdcp) hs)

-- "Its highest is the PDCP number of the last record, in sending order, such that it and every record before it are confirmed and it lies
-- before the first run left out; if there is no such record, the reported highest again."
abbrev pub highest_now : Account → ℕ
highest_now a = last_pdcp a.reported (going a)

-- "It is the reported highest from then on. Carried runs and those records are dropped, .. Final closes this end."
abbrev pub reporting : Account → Bool → Account
reporting a final =
    changed a.fates (a.told + length (packets_of (carried a))) (drop (going_of (left_out a) a.records) a.records) (highest_now a) final

-- "would a status now carry a range or let go of a record?" (document 02, Eight)
abbrev pub something_to_say : Account → Bool
something_to_say a = some_in (carried a) or some_in (going a)

-- ---- on the circle

-- the run of the packets from one up to, and without, another
abbrev pub run_at : ℕ → ℕ → Gap → Range
run_at L first g = record { start = number_of L first g.from; end = number_of L first (g.to - 1) }

-- what a status says: desired size, minimum size and Final are the caller's
abbrev pub account_status : ℕ → ℕ → Account → ℕ → ℕ → Bool → Status
account_status L first a desired minimum final = record {
  long = is_long L;
  final = final;
  highest = highest_now a;
  desired = desired;
  minimum = minimum;
  ranges = map (run_at L first) (carried a);
}
