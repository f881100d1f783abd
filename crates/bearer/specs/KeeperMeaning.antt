-- What the secondary's machine means: every state that calls reach from open is as document 01 says, on packet indexes that
-- never roll over (the written rule: Rule.antt and Account.antt). The statements are `KeeperMeans`, `ArrivalsCount`, `ExpiriesCount`, `MarksLie`,
-- `MarksKept`, `StatusesSay` and `AnythingSays`; they are proved in proofs/Secondary/KeeperMeans.antt and MarkOf.antt, and `RunsMaximal` of
-- Account.antt in proofs/Secondary/RunsIn.antt. `AnythingLooks` and `AnythingAgrees` are of every state; they are proved in
-- proofs/Answers/Anything.antt. Which calls are refused: Refusals.antt.
-- Assumes nothing.
use Rattle.std.specs.Prelude.{◌≡◌, Bool, true, false, List, [], ◌++◌, map, ℕ, ◌+◌, ◌^◌, ◌≤◌, ◌<◌, ltb, length, take, drop, if◌then◌else◌}
use Rattle.basics.specs.Basics.{◌or◌, some_in, done, refused}
use Rattle.circle.specs.Lengths.{modulus_of, half}
use Rattle.frame_layout.specs.Frames.{read_frame, status_octets}
use Rattle.bearer.specs.Losses.{Gap}
use Rattle.bearer.specs.Keeper.{Keeper, Record, open_keeper, arrive, expire, confirm, let_go, status_now, status, anything}
use Rattle.bearer.specs.Rule.{Fates, is_in, far_below, Lowest, highest, arrival, expiry}
use Rattle.bearer.specs.Packets.{number_of, forward_from, mark_of, Rising, In, Each}
use Rattle.bearer.specs.Demand3.{ranges_read}
use Rattle.bearer.specs.Account.{Held, Account, begun, indexes, run_at, listed, arriving, expiring, confirming, reporting, something_to_say, account_status}

-- the record of a packet
abbrev pub record_at : ℕ → ℕ → Held → Record
record_at L first h = record { number = number_of L first h.index; pdcp = h.pdcp; confirmed = h.confirmed }

-- the state of an account whose lowest open packet is base
abbrev pub keeper_of : ℕ → ℕ → ℕ → Account → Keeper
keeper_of L first base a = record {
  bits = L;
  base = number_of L first base;
  reported = a.reported;
  closed = a.final;
  runs = map (run_at L first) (listed a);
  records = map (record_at L first) a.records;
}

-- the packet that a number names: the first at or past base that bears it
abbrev pub packet_at : ℕ → ℕ → ℕ → ℕ → ℕ
packet_at L first base n = base + forward_from L first base n

-- A state that calls reach from open, with the account of them. Refused calls leave the state (`SecondaryKeeps` of Refusals.antt), so they are
-- no steps here.
pub data Reached (L first f : ℕ) : Keeper → Account → Type 0 where
  -- a fresh end
  opened : {k : Keeper} → open_keeper L first f ≡ done k → Reached L first f k (begun L f)
  -- numbers arrived: those of the packet that the X2-U number names
  arrived : {k : Keeper} {a : Account} (n p c base : ℕ) → Reached L first f k a → Lowest a.fates base → (arrive k n p).answer ≡ done c
      → Reached L first f (arrive k n p).state (arriving a (packet_at L first base n) p)
  -- gaps expired: those before the packet that the mark names
  expired : {k : Keeper} {a : Account} (n c : ℕ) → Reached L first f k a → (expire k n).answer ≡ done c
      → Reached L first f (expire k n).state (expiring a (mark_of L first n a.fates))
  -- a number was confirmed: that of a packet with a record
  confirmed : {k : Keeper} {a : Account} (n i : ℕ) → Reached L first f k a → In i (indexes a.records) → number_of L first i ≡ n
      → (confirm k n).answer ≡ done tt → Reached L first f (confirm k n).state (confirming a i)
  -- a status was built
  reported : {k : Keeper} {a : Account} (d m : ℕ) (final : Bool) (buffer : List ℕ) (c : ℕ) → Reached L first f k a
      → (status k d m final buffer).answer ≡ done c → Reached L first f (status k d m final buffer).state (reporting a final)

-- What a state means: it is its account's, and what an account is like that calls reach.
pub record Means (L first : ℕ) (k : Keeper) (a : Account) : Type 0 where
  -- "Base is the lowest open number."
  pub base : ℕ
  pub lowest : Lowest a.fates base
  -- base, the listed runs, the records, the reported highest are the account's; the end is closed exactly if a status had Final
  pub state_is : k ≡ keeper_of L first base a
  -- "Each number from the first on is open, received or lost", never two of them
  pub not_both : (i : ℕ) → In i a.fates.received → is_in i a.fates.lost ≡ false
  -- the lost were declared in sending order, each once; all lie before base ("A lost number that arrives later is late", or since
  -- request One opposite, if it lies M/2 before base), and no more were reported than are lost
  pub lost_rising : Rising a.fates.lost
  pub lost_before : (i : ℕ) → In i a.fates.lost → i < base
  pub told_most : a.told ≤ length a.fates.lost
  -- records are in sending order and distinct, each of a received packet; each received packet from base on has one
  pub records_rising : Rising (indexes a.records)
  pub records_received : Each (λ (h : Held). In h.index a.fates.received) a.records
  pub from_base_on : (i : ℕ) → base ≤ i → In i a.fates.received → In i (indexes a.records)
  -- only records before base are confirmed
  pub confirmed_before : Each (λ (h : Held). h.confirmed ≡ true → h.index < base) a.records
  -- no number with a record is 256 or more past base
  pub within_window : Each (λ (h : Held). h.index < base + far_below) a.records
  -- the stores' limits
  pub runs_at_most : length (listed a) ≤ 256
  pub records_at_most : length a.records ≤ 512
  -- floor to base is at most M/2
  pub floor_runs : Each (λ (g : Gap). base ≤ g.from + half L) (listed a)
  pub floor_records : Each (λ (h : Held). base ≤ h.index + half L) a.records

-- ---- the statements

-- every state that calls reach
abbrev pub KeeperMeans : Type 0
KeeperMeans = (L first f : ℕ) (k : Keeper) (a : Account) → Reached L first f k a → Means L first k a

-- an accepted arrival answers how many became lost by the rule
abbrev pub ArrivalsCount : Type 0
ArrivalsCount =
    (L first f : ℕ) (k : Keeper) (a : Account) → Reached L first f k a → (n p c base : ℕ) → Lowest a.fates base → (arrive k n p).answer ≡ done c
    → length (arrival a.fates (packet_at L first base n)).lost ≡ length a.fates.lost + c

-- and so does an accepted expiry
abbrev pub ExpiriesCount : Type 0
ExpiriesCount =
    (L first f : ℕ) (k : Keeper) (a : Account) → Reached L first f k a → (n c : ℕ) → (expire k n).answer ≡ done c
    → length (expiry a.fates (mark_of L first n a.fates)).lost ≡ length a.fates.lost + c

-- "A mark M/2 or more forward from base lies behind it, and no open number precedes it.": base is the lowest one, and the packet so named is not
-- past it. Any other mark names the packet as far past base, unless that is beyond the highest accepted.
abbrev pub MarksLie : Type 0
MarksLie =
    (L first f : ℕ) (k : Keeper) (a : Account) → Reached L first f k a → (base n : ℕ) → Lowest a.fates base → n < modulus_of L
    → (half L ≤ forward_from L first base n → mark_of L first n a.fates ≤ base)
    × (forward_from L first base n < half L → packet_at L first base n ≤ highest a.fates.received → mark_of L first n a.fates ≡ packet_at L first base n)

-- the number of an accepted packet, kept as a mark, names that packet as long as the highest accepted is less than M past it
abbrev pub MarksKept : Type 0
MarksKept =
    (L first : ℕ) (r : Fates) (i : ℕ) → In i r.received → highest r.received < i + modulus_of L → mark_of L first (number_of L first i) r ≡ i

-- an accepted status answers its frame's length, and leaves the frame that says what the account says at the front of the buffer, whose other
-- octets stay
abbrev pub StatusesSay : Type 0
StatusesSay =
    (L first f : ℕ) (k : Keeper) (a : Account) → Reached L first f k a
    → (d m : ℕ) (final : Bool) (buffer : List ℕ) (c : ℕ) → (status k d m final buffer).answer ≡ done c
    → (c ≡ length (status_octets (account_status L first a d m final)))
    × ((status k d m final buffer).buffer ≡ status_octets (account_status L first a d m final) ++ drop c buffer)

-- whether there is anything to say is answered by the account: 9 once a status had Final, and else whether a status now would carry a range or let go
-- of a record
abbrev pub AnythingSays : Type 0
AnythingSays =
    (L first f : ℕ) (k : Keeper) (a : Account) → Reached L first f k a → anything k ≡ (if a.final then refused 9 else done (something_to_say a))

-- "It looks at the first run, or the first record if no run is listed", and beside whether the end is closed at nothing else: two ends, in any
-- states, that are alike in these get the same answer
abbrev pub AnythingLooks : Type 0
AnythingLooks =
    (k l : Keeper) → k.closed ≡ l.closed → take 1 k.runs ≡ take 1 l.runs → (k.runs ≡ [] → take 1 k.records ≡ take 1 l.records)
    → anything k ≡ anything l

-- "and agrees with building the whole frame", whatever the state
pub record Agrees (k : Keeper) : Type 0 where
  -- with what a status would carry and let go, also where it would be refused
  pub planned : (d m : ℕ) (final : Bool) → anything k ≡ (if k.closed then refused 9 else done (some_in (status_now k d m final).ranges or ltb 0 (let_go k)))
  -- with what any status does that is accepted, both sizes being numbers of 32 bits: its frame bears a range, as anyone reads it, or there are fewer
  -- records then
  pub built : (d m : ℕ) (final : Bool) (buffer : List ℕ) (c : ℕ) → d < 2 ^ 32 → m < 2 ^ 32 → (status k d m final buffer).answer ≡ done c
      → anything k ≡ done (some_in (ranges_read (read_frame (take c (status k d m final buffer).buffer)))
      or ltb (length (status k d m final buffer).state.records) (length k.records))
  -- where it is no, a status has no range and repeats the reported highest, and one without Final leaves the state as it was
  pub nothing_new : anything k ≡ done false → (d m : ℕ) (final : Bool) (buffer : List ℕ)
      → ((status_now k d m final).ranges ≡ []) × ((status_now k d m final).highest ≡ k.reported) × ((status k d m false buffer).state ≡ k)

-- every state
abbrev pub AnythingAgrees : Type 0
AnythingAgrees = (k : Keeper) → Agrees k
