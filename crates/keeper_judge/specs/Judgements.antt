-- What a judgement means: the machine's answer and the state that it leaves (the crate bearer, Keeper.antt), and of an accepted
-- arrival or expiry what is given up, so that it can be listed without judging again.
-- Assumes nothing.
use Rattle.std.specs.Prelude.{◌≡◌, Bool, false, List, [], ◌∷◌, Option, Some, None, Result, Ok, Err, ℕ, ◌+◌, ◌%◌, ◌≤◌, ◌<◌, length, drop}
use Rattle.circle.specs.Lengths.{modulus_of}
use Rattle.frame_layout.specs.Frames.{Range, ends_of}
use Rattle.refusal.specs.Numbers.{number_of}
use Rattle.refusal.specs.declared.Refusal.{Refusal}
use Rattle.refusal.specs.declared.Refusal.TheVariants.{Runs}
use Rattle.bearer.specs.Bearer.{After, refusing, answering, most_runs, most_records}
use Rattle.bearer.specs.Losses.{from_base, lost_below, size_of, new_runs, adjoins, runs_joined}
use Rattle.bearer.specs.Keeper.{Keeper, new_record, records_with, held, runs_after, arrive_on, arrive, expire_below, expire, ◌with_base◌, ◌with_runs◌, ◌with_records◌}
use Rattle.keeper_judge.specs.declared.Losses.{Losses}
use Rattle.keeper_judge.specs.declared.Plan.{Plan}
use Rattle.keeper_judge.specs.declared.Arrival.{Arrival}

-- ---- what is given up

-- whether a run adjoins the last of those listed, by their ends
abbrev pub adjoins_last : ℕ → List ℕ → ℕ → Bool
adjoins_last M [] start = false
adjoins_last M (e ∷ []) start = adjoins M e start
adjoins_last M (e ∷ f ∷ es) start = adjoins_last M (f ∷ es) start

-- whether the first of new runs adjoins the last of those listed
abbrev pub first_adjoins : ℕ → List ℕ → List Range → Bool
first_adjoins M es [] = false
first_adjoins M es (r ∷ rs) = adjoins_last M es r.start

-- whether one that starts so far from base does, if there is one
abbrev pub joins_from : ℕ → ℕ → List ℕ → Option ℕ → Bool
joins_from M base es None = false
joins_from M base es (Some d) = adjoins_last M es ((base + d) % M)

-- the numbers from `from` on are those at or past base, where anything is given up
pub record ReachesFrom (from limit M base : ℕ) (ns : List ℕ) : Type 0 where
  pub within : from ≤ length ns
  pub from_is : 0 < limit → drop from ns ≡ from_base M base ns

abbrev pub Reaches : Losses → ℕ → ℕ → List ℕ → Type 0
Reaches lost M base ns = ReachesFrom lost.from lost.limit M base ns

-- what is lost below the limit where these numbers have records, when these runs are listed
pub record Losing (lost : Losses) (M base : ℕ) (ns : List ℕ) (runs : List Range) : Type 0 where
  pub reaches : Reaches lost M base ns
  pub numbers_are : lost.numbers ≡ size_of (lost_below M base ns lost.limit)
  pub joins_is : lost.joins ≡ first_adjoins M (ends_of runs) (new_runs M base ns lost.limit)
  pub runs_are : lost.runs ≡ length (runs_joined M runs (new_runs M base ns lost.limit))

-- what a state loses: no more runs than can be listed
pub record Loses (lost : Losses) (k : Keeper) : Type 0 where
  pub losing : Losing lost (modulus_of k.bits) k.base (held k) k.runs
  pub few : lost.runs ≤ most_runs

-- what it loses below a limit, or 14 for more runs
abbrev pub JudgesLosses : Result Losses Refusal → Keeper → ℕ → Type 0
JudgesLosses (Err r) k l = (r ≡ Runs) × (most_runs < length (runs_after k l))
JudgesLosses (Ok lost) k l = (lost.limit ≡ l) × Loses lost k

-- ---- arrival

-- an accepted arrival: there is room at its place, and the state is the machine's
pub record AcceptsArrival (place : ℕ) (plan : Plan) (k : Keeper) (n p : ℕ) (o : After Keeper ℕ) : Type 0 where
  pub within : place ≤ length k.records
  pub room : length k.records < most_records
  pub loses : Loses plan.lost k
  pub outcome : o
      ≡ answering plan.lost.numbers (k with_base plan.base with_runs runs_after k plan.lost.limit with_records records_with k.records place (new_record n p))

-- a judgement of an arrival is an outcome of the machine's
abbrev pub ArrivalIs : Result Arrival Refusal → Keeper → ℕ → ℕ → After Keeper ℕ → Type 0
ArrivalIs (Err r) k n p o = o ≡ refusing (number_of r) k
ArrivalIs (Ok a) k n p o = AcceptsArrival a.place a.plan k n p o

-- ... that of the call
abbrev pub JudgesArrival : Result Arrival Refusal → Keeper → ℕ → ℕ → Type 0
JudgesArrival r k n p = ArrivalIs r k n p (arrive k n p)

-- ... that of a number that doesn't lie before base
abbrev pub JudgesPlace : Result Arrival Refusal → Keeper → ℕ → ℕ → Type 0
JudgesPlace r k n p = ArrivalIs r k n p (arrive_on k n p)

-- ---- expiry

-- an accepted expiry: the state is the machine's
pub record AcceptsExpiry (plan : Plan) (k : Keeper) (o : After Keeper ℕ) : Type 0 where
  pub loses : Loses plan.lost k
  pub outcome : o ≡ answering plan.lost.numbers (k with_base plan.base with_runs runs_after k plan.lost.limit)

-- a judgement of an expiry is an outcome of the machine's
abbrev pub ExpiryIs : Result Plan Refusal → Keeper → After Keeper ℕ → Type 0
ExpiryIs (Err r) k o = o ≡ refusing (number_of r) k
ExpiryIs (Ok plan) k o = AcceptsExpiry plan k o

-- ... that of the call
abbrev pub JudgesExpiry : Result Plan Refusal → Keeper → ℕ → Type 0
JudgesExpiry r k n = ExpiryIs r k (expire k n)

-- ... that of what is open below a distance
abbrev pub JudgesGaps : Result Plan Refusal → Keeper → ℕ → Type 0
JudgesGaps r k d = ExpiryIs r k (expire_below k d)
