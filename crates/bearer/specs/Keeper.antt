-- The secondary's machine: what each call answers and leaves, in every state (document 01, "The secondary's rule" and "Refusal numbers"; document
-- 02, One, Six and Eight). Numbers are on their circles; distances are forward from base. Every definition is total.
--
-- What these mean on packet indexes that never roll over is proved apart (KeeperMeaning.antt): base is the lowest open
-- number, the runs are the maximal runs of lost and unreported numbers, the records stand in sending order.
-- Assumes nothing.
use Rattle.std.specs.Prelude.{Bool, true, false, not, List, [], ◌∷◌, ◌++◌, map, ℕ, zero, suc, ◌+◌, ◌-◌, ◌%◌, ltb, leb, eqb, length, get_or, take, drop, set, if◌then◌else◌}
use Rattle.circle.specs.Circle.{forward}
use Rattle.circle.specs.Sides.{Side, same, ahead, behind, opposite, lies}
use Rattle.basics.specs.Basics.{◌and◌, ◌or◌, Outcome, done, refused}
use Rattle.frame_layout.specs.Frames.{Range, Status, Written, most_ranges, starts_of, write_status}
use Rattle.bearer.specs.Bearer.{window, most_runs, most_records, After, refusing, answering}
use Rattle.circle.specs.Lengths.{is_length, is_long, modulus_of, half, pdcps, pdcp_before}
use Rattle.bearer.specs.Losses.{before, ahead_of, floor_behind, place_in, bears_before, is_beyond, offsets, above_base, Gap, lost_below, size_of, lowest, raised_base, new_runs, runs_joined, goes_before}

-- a packet that arrived: its two numbers, and whether the handset has it
pub record Record : Type 0 where
  pub number : ℕ
  pub pdcp : ℕ
  pub confirmed : Bool

-- the secondary's end: L, the lowest open number, the reported highest, whether it is closed, the listed runs and the records
pub record Keeper : Type 0 where
  pub bits : ℕ
  pub base : ℕ
  pub reported : ℕ
  pub closed : Bool
  pub runs : List Range
  pub records : List Record

-- a state whose parts that calls change are put anew; beside a fresh end, the one place that says every field
abbrev pub changed : Keeper → ℕ → ℕ → Bool → List Range → List Record → Keeper
changed k base reported closed runs records = record {
  bits = k.bits;
  base = base;
  reported = reported;
  closed = closed;
  runs = runs;
  records = records;
}

-- ... with another base
infixl 20 ◌with_base◌
abbrev pub ◌with_base◌ : Keeper → ℕ → Keeper
◌with_base◌ k base = changed k base k.reported k.closed k.runs k.records

-- ... with another reported highest
infixl 20 ◌with_reported◌
abbrev pub ◌with_reported◌ : Keeper → ℕ → Keeper
◌with_reported◌ k reported = changed k k.base reported k.closed k.runs k.records

-- ... closed or not
infixl 20 ◌with_closed◌
abbrev pub ◌with_closed◌ : Keeper → Bool → Keeper
◌with_closed◌ k closed = changed k k.base k.reported closed k.runs k.records

-- ... with other listed runs
infixl 20 ◌with_runs◌
abbrev pub ◌with_runs◌ : Keeper → List Range → Keeper
◌with_runs◌ k runs = changed k k.base k.reported k.closed runs k.records

-- ... with other records
infixl 20 ◌with_records◌
abbrev pub ◌with_records◌ : Keeper → List Record → Keeper
◌with_records◌ k records = changed k k.base k.reported k.closed k.runs records

-- ---- open

-- a fresh end: base is the first number, and the reported highest the PDCP number before the first one
abbrev pub fresh_keeper : ℕ → ℕ → ℕ → Keeper
fresh_keeper L first f = record {
  bits = L;
  base = first;
  reported = pdcp_before L f;
  closed = false;
  runs = [];
  records = [];
}

-- 7, 10, or a fresh end
abbrev pub open_keeper : ℕ → ℕ → ℕ → Outcome Keeper
open_keeper L first f =
    if not (is_length L) then refused 7 else
    (if not (ltb first (modulus_of L) and ltb f (pdcps L)) then refused 10 else
    done (fresh_keeper L first f))

-- ---- the state, seen from base

-- the numbers of records
abbrev pub numbers_of : List Record → List ℕ
numbers_of rs = map (λ (r : Record). r.number) rs

-- the numbers with records, in sending order
abbrev pub held : Keeper → List ℕ
held k = numbers_of k.records

-- the starts of the listed runs
abbrev pub starts : Keeper → List ℕ
starts k = starts_of k.runs

-- forward from floor to base: floor is the earliest of base, the listed numbers and the numbers with records
abbrev pub floor : Keeper → ℕ
floor k = floor_behind (modulus_of k.bits) k.base (starts k) (held k)

-- where among the records a number belongs: in front of the last ones that all lie ahead of it
abbrev pub place_of : Keeper → ℕ → ℕ
place_of k n = place_in (modulus_of k.bits) (held k) n

-- the record in front of that place bears the number already
abbrev pub has_record : Keeper → ℕ → ℕ → Bool
has_record k n i = bears_before (held k) n i

-- the distances from base of the records at or past it
abbrev pub above : Keeper → List ℕ
above k = above_base (modulus_of k.bits) k.base (held k)

-- what is given up below the distance l: each open number there is lost
abbrev pub given_up : Keeper → ℕ → List Gap
given_up k l = lost_below (modulus_of k.bits) k.base (held k) l

-- the listed runs when that is given up
abbrev pub runs_after : Keeper → ℕ → List Range
runs_after k l = runs_joined (modulus_of k.bits) k.runs (new_runs (modulus_of k.bits) k.base (held k) l)

-- the base when that is given up
abbrev pub base_after : Keeper → ℕ → ℕ
base_after k l = (k.base + lowest l (above k)) % modulus_of k.bits

-- ---- arrival

-- an arrival d forward from base gives up what is 256 or more below it
abbrev pub limit_of : ℕ → ℕ
limit_of d = suc d - window

-- the base after an arrival at a distance, whose record stands at the place i of these numbers: it moves if the arrival is base itself,
-- or if base is given up
abbrev pub base_arrived : ℕ → ℕ → List ℕ → ℕ → ℕ → ℕ
base_arrived M base ns i d =
    if eqb d 0 then (base + lowest 1 (offsets M base (drop i ns))) % M else
    (if ltb d window then base else
    raised_base M base (above_base M base ns) (limit_of d) d)

-- the base after an arrival
abbrev pub arrived_base : Keeper → ℕ → ℕ → ℕ
arrived_base k i d = base_arrived (modulus_of k.bits) k.base (held k) i d

-- the record of an arrival: the handset hasn't it yet
abbrev pub new_record : ℕ → ℕ → Record
new_record n p = record { number = n; pdcp = p; confirmed = false }

-- records with one more, at the place i
abbrev pub records_with : List Record → ℕ → Record → List Record
records_with rs i r = take i rs ++ (r ∷ drop i rs)

-- the state after an accepted arrival, whose record stands at the place i
abbrev pub arrived : Keeper → ℕ → ℕ → ℕ → ℕ → Keeper
arrived k n p i d = k with_base arrived_base k i d with_runs runs_after k (limit_of d) with_records records_with k.records i (new_record n p)

-- by the place i and the distance d: 12, 13, 14, 15, or how many became lost
abbrev pub arrive_at : Keeper → ℕ → ℕ → ℕ → ℕ → After Keeper ℕ
arrive_at k n p i d =
    if has_record k n i then refusing 12 k else
    (if leb (half k.bits) (floor k + d) then refusing 13 k else
    (if ltb most_runs (length (runs_after k (limit_of d))) then refusing 14 k else
    (if leb most_records (length k.records) then refusing 15 k else
    answering (size_of (given_up k (limit_of d))) (arrived k n p i d))))

-- one that doesn't lie before base: by its place among the records and its distance
abbrev pub arrive_on : Keeper → ℕ → ℕ → After Keeper ℕ
arrive_on k n p = arrive_at k n p (place_of k n) (forward (modulus_of k.bits) k.base n)

-- by how the number lies to base: 18, 11, or as it goes on
abbrev pub arrive_by : Keeper → ℕ → ℕ → Side → After Keeper ℕ
arrive_by k n p opposite = refusing 18 k
arrive_by k n p behind = refusing 11 k
arrive_by k n p same = arrive_on k n p
arrive_by k n p ahead = arrive_on k n p

-- arrival of a number and a PDCP number: 9, 10, and then by how it lies to base
abbrev pub arrive : Keeper → ℕ → ℕ → After Keeper ℕ
arrive k n p =
    if k.closed then refusing 9 k else
    (if not (ltb n (modulus_of k.bits) and ltb p (pdcps k.bits)) then refusing 10 k else
    arrive_by k n p (lies (modulus_of k.bits) k.base n))

-- ---- expiry

-- the mark is beyond the highest accepted: it doesn't lie before base, and is beyond the last record, which counts only at or past base
abbrev pub mark_beyond : Keeper → ℕ → Bool
mark_beyond k n = not (before (modulus_of k.bits) k.base n) and is_beyond (modulus_of k.bits) k.base (held k) n

-- no open number precedes the mark: it doesn't lie ahead of base, which is the lowest one
abbrev pub none_precedes : Keeper → ℕ → Bool
none_precedes k n = not (ahead_of (modulus_of k.bits) k.base n)

-- what is open below the distance d expires: 14, or how many became lost
abbrev pub expire_below : Keeper → ℕ → After Keeper ℕ
expire_below k d =
    if ltb most_runs (length (runs_after k d)) then refusing 14 k else
    answering (size_of (given_up k d)) (k with_base base_after k d with_runs runs_after k d)

-- expiry of what is open before a mark: 9, 10, 19, 17, and then below its distance
abbrev pub expire : Keeper → ℕ → After Keeper ℕ
expire k n =
    if k.closed then refusing 9 k else
    (if leb (modulus_of k.bits) n then refusing 10 k else
    (if mark_beyond k n then refusing 19 k else
    (if none_precedes k n then refusing 17 k else
    expire_below k (forward (modulus_of k.bits) k.base n))))

-- ---- confirm

-- where a number first stands in a list; the length for nowhere
abbrev pub index_of : ℕ → List ℕ → ℕ
index_of n [] = 0
index_of n (m ∷ ms) = if eqb m n then 0 else suc (index_of n ms)

-- a record that no place holds
abbrev pub no_record : Record
no_record = record { number = 0; pdcp = 0; confirmed = false }

-- a record, delivered to the handset
abbrev pub delivered : Record → Record
delivered r = record { number = r.number; pdcp = r.pdcp; confirmed = true }

-- the record of n at the place i isn't to be confirmed: n isn't before base, or it is confirmed already
abbrev pub not_now : Keeper → ℕ → ℕ → Bool
not_now k n i = not (before (modulus_of k.bits) k.base n) or (get_or k.records i no_record).confirmed

-- the record of n at the place i: 16, or it is marked
abbrev pub confirm_at : Keeper → ℕ → ℕ → After Keeper Unit
confirm_at k n i =
    if not_now k n i then refusing 16 k else
    answering tt (k with_records set k.records i (delivered (get_or k.records i no_record)))

-- confirm of a number: 9, 10, 16, or its record is marked
abbrev pub confirm : Keeper → ℕ → After Keeper Unit
confirm k n =
    if k.closed then refusing 9 k else
    (if not (ltb n (modulus_of k.bits)) then refusing 10 k else
    (if leb (length (held k)) (index_of n (held k)) then refusing 16 k else
    confirm_at k n (index_of n (held k))))

-- ---- status

-- a record that a status may let go: confirmed, and before the first run left out
abbrev pub may_go : Keeper → List Range → Record → Bool
may_go k left r = goes_before (modulus_of k.bits) (starts_of left) r.number r.confirmed

-- how many elements at the front of a list have a property
abbrev pub run_with : {A : Type 0} → (A → Bool) → List A → ℕ
run_with p [] = 0
run_with p (x ∷ xs) = if p x then suc (run_with p xs) else 0

-- how many records a status lets go: through the last such that it and every record before it may go
abbrev pub let_go : Keeper → ℕ
let_go k = run_with (may_go k (drop most_ranges k.runs)) k.records

-- the highest of a status that lets go of so many records: the last one's PDCP number, or the reported highest again
abbrev pub highest_of : Keeper → ℕ → ℕ
highest_of k zero = k.reported
highest_of k (suc i) = (get_or k.records i no_record).pdcp

-- what a status says
abbrev pub status_now : Keeper → ℕ → ℕ → Bool → Status
status_now k desired minimum final = record {
  long = is_long k.bits;
  final = final;
  highest = highest_of k (let_go k);
  desired = desired;
  minimum = minimum;
  ranges = take most_ranges k.runs;
}

-- the state after a status: what it carried and what it let go are dropped, and Final closes
abbrev pub reported_state : Keeper → Bool → Keeper
reported_state k final =
    k with_reported highest_of k (let_go k) with_closed final with_runs drop most_ranges k.runs with_records drop (let_go k) k.records

-- what a status leaves: its answer, the state and the caller's buffer
pub record Reported : Type 0 where
  pub answer : Outcome ℕ
  pub state : Keeper
  pub buffer : List ℕ

-- a refused status leaves the state and the buffer as they were
abbrev pub unreported : ℕ → Keeper → List ℕ → Reported
unreported n k d = record { answer = refused n; state = k; buffer = d }

-- the state by the writer's answer: a refusal leaves it as it was
abbrev pub state_by : Keeper → Bool → Outcome ℕ → Keeper
state_by k final (done n) = reported_state k final
state_by k final (refused n) = k

-- as the writer answers: the frame and the state after it, or its refusal and nothing changed
abbrev pub reported_as : Keeper → Bool → Written → Reported
reported_as k final w = record { answer = w.answer; state = state_by k final w.answer; buffer = w.buffer }

-- Final is asked while more runs are listed than a status carries
abbrev pub final_too_early : Keeper → Bool → Bool
final_too_early k final = final and ltb most_ranges (length k.runs)

-- a status: 9, 22, and then as the writer answers (20; 4 and 10 only in states that no calls reach: `SecondaryGiven` of Refusals.antt)
abbrev pub status : Keeper → ℕ → ℕ → Bool → List ℕ → Reported
status k desired minimum final d =
    if k.closed then unreported 9 k d else
    (if final_too_early k final then unreported 22 k d else
    reported_as k final (write_status (status_now k desired minimum final) d))

-- ---- anything to say

-- whether the first of records is confirmed; where there is none it isn't
abbrev pub first_confirmed : List Record → Bool
first_confirmed [] = false
first_confirmed (r ∷ rs) = r.confirmed

-- "It looks at the first run, or the first record if no run is listed" (document 02, Eight)
abbrev pub news : List Range → List Record → Bool
news [] records = first_confirmed records
news (run ∷ runs) records = true

-- would a status now carry a range or let go of a record: 9, or yes or no. To ask changes nothing
abbrev pub anything : Keeper → Outcome Bool
anything k = if k.closed then refused 9 else done (news k.runs k.records)
