-- Document 01's table of refusals and its orders, as document 02's requests changed them, for both ends: for each number its sentence, of the
-- packets of an account (Account.antt) or of books (LedgerMeaning.antt), in the table's own figures; for each call its numbers in order. Nothing
-- that the machines do is used in them; what stands in a frame is told in the words of the crate frame_layout, and how two numbers lie to each
-- other in those of the crate circle, where each of the four answers has its sentence (Sides.antt).
--
-- What a call answers by them is `Given` (the crate basics, Refusals.antt); the refusals of a frame are those of the crate frame_layout. The
-- statements are at the end: of every state that calls reach, each call is refused with the first number whose sentence holds, and
-- accepted if none does. They are proved in proofs/Secondary/Given.antt and proofs/Master/Given.antt; that a refusal changes nothing, in
-- proofs/Answers/Kept.antt.
-- Assumes nothing.
use Rattle.std.specs.Prelude.{◌≡◌, Bool, true, false, List, [], ◌∷◌, ◌++◌, map, ◌⊎◌, ℕ, ◌+◌, ◌-◌, ◌^◌, ◌≤◌, ◌<◌, min, length, get_or}
use Rattle.basics.specs.Basics.{is_done}
use Rattle.basics.specs.Refusals.{Refusal, ◌when◌, Given, Some}
use Rattle.circle.specs.Circle.{forward}
use Rattle.circle.specs.Sides.{behind, opposite}
use Rattle.circle.specs.Lengths.{is_long, modulus_of, half}
use Rattle.frame_layout.specs.Frames.{Status, status_type, status_octets, status_in}
use Rattle.frame_layout.specs.Refusals.{type_of, read_refusals}
use Rattle.frame_layout.specs.Trips.{AreOctets}
use Rattle.bearer.specs.Bearer.{Keeps}
use Rattle.bearer.specs.Keeper as K
use Rattle.bearer.specs.Ledger as G
use Rattle.bearer.specs.Rule.{Fates, is_in, is_open, Lowest, highest, arrival, expiry}
use Rattle.bearer.specs.Packets.{number_of, forward_from, mark_of, lies_from, packets, In, Rising, Each, in_ranges}
use Rattle.bearer.specs.Account.{Held, Account, indexes, runs_in, untold, listed, account_status}
use Rattle.bearer.specs.KeeperMeaning.{Reached, packet_at}
use Rattle.bearer.specs.LedgerMeaning.{Books, last_sent, waiting_in, lost_in, LedgerReached}

-- ---- both ends

-- 7: "open: L is not 12, 15 or 18"
abbrev pub NoLength : ℕ → Type 0
NoLength L = (L ≡ 12) ⊎ (L ≡ 15) ⊎ (L ≡ 18) → ⊥

-- 10: "an X2-U number is M or more, or a PDCP number 2^L or more"
abbrev pub NoNumber : ℕ → ℕ → ℕ → Type 0
NoNumber L n p = (modulus_of L ≤ n) ⊎ (2 ^ L ≤ p)

-- "Open: 7, 10."
abbrev pub open_refusals : ℕ → ℕ → ℕ → List Refusal
open_refusals L first f =
    (7 when NoLength L)
    ∷ (10 when NoNumber L first f)
    ∷ []

-- ---- the secondary, by its account a, whose lowest open packet is base

-- a record is that of a number
abbrev pub Bears : ℕ → ℕ → ℕ → Held → Type 0
Bears L first n h = number_of L first h.index ≡ n

-- the earliest of a packet and others
abbrev pub earliest : ℕ → List ℕ → ℕ
earliest i [] = i
earliest i (j ∷ js) = min j (earliest i js)

-- "Let floor be the earliest of base, the listed numbers and the numbers with records."
abbrev pub floor_of : Account → ℕ → ℕ
floor_of a base = earliest base (untold a.told a.fates ++ indexes a.records)

-- 13: "(forward from floor to base) + (forward from base to the arrival) is M/2 or more"
abbrev pub SpanTooLong : ℕ → ℕ → Account → ℕ → ℕ → Type 0
SpanTooLong L first a base n = half L ≤ (base - floor_of a base) + forward_from L first base n

-- 14: "more than 256 runs would be listed", by these fates
abbrev pub TooManyRuns : Account → Fates → Type 0
TooManyRuns a r = 256 < length (runs_in (untold a.told r))

-- 16: "confirm: no record of that number, or not before base, or already confirmed"
abbrev pub NotToConfirm : ℕ → ℕ → Account → ℕ → ℕ → Type 0
NotToConfirm L first a base n =
    (Some (Bears L first n) a.records → ⊥)
    ⊎ Some (λ (h : Held). Bears L first n h × (base ≤ h.index)) a.records
    ⊎ Some (λ (h : Held). Bears L first n h × (h.confirmed ≡ true)) a.records

-- "nothing at or past base is accepted"
abbrev pub NoneAccepted : Fates → ℕ → Type 0
NoneAccepted r base = (i : ℕ) → base ≤ i → is_in i r.received ≡ false

-- 19: "for a mark less than M/2 forward from base and beyond the highest accepted, or so placed when nothing at or past base is accepted"
-- (request Six)
abbrev pub MarkBeyond : ℕ → ℕ → Fates → ℕ → ℕ → Type 0
MarkBeyond L first r base n =
    (forward_from L first base n < half L) × ((highest r.received < packet_at L first base n) ⊎ NoneAccepted r base)

-- 17: "when no open number precedes the mark"
abbrev pub NoneToExpire : Fates → ℕ → Type 0
NoneToExpire r mark = (i : ℕ) → i < mark → is_open r i ≡ false

-- "Arrival: 9, 10, 18, 11, 12, 13, 14, 15." as request One leaves it, "18 for an opposite arrival, after 10 and before 11, which is then given
-- only above M/2": 18 for one opposite base, 11 for one behind it
abbrev pub arrival_refusals : ℕ → ℕ → Account → ℕ → ℕ → ℕ → List Refusal
arrival_refusals L first a base n p =
    (9 when (a.final ≡ true))
    ∷ (10 when NoNumber L n p)
    ∷ (18 when (lies_from L first base n ≡ opposite))
    ∷ (11 when (lies_from L first base n ≡ behind))
    ∷ (12 when Some (Bears L first n) a.records)
    ∷ (13 when SpanTooLong L first a base n)
    ∷ (14 when TooManyRuns a (arrival a.fates (packet_at L first base n)))
    ∷ (15 when (512 ≤ length a.records))
    ∷ []

-- "Refusals, in order: 9; 10 for a mark of M or more; 19 ..; 17 ..; 14." (request Six)
abbrev pub expiry_refusals : ℕ → ℕ → Account → ℕ → ℕ → List Refusal
expiry_refusals L first a base n =
    let mark : ℕ = mark_of L first n a.fates in
    (9 when (a.final ≡ true))
    ∷ (10 when (modulus_of L ≤ n))
    ∷ (19 when MarkBeyond L first a.fates base n)
    ∷ (17 when NoneToExpire a.fates mark)
    ∷ (14 when TooManyRuns a (expiry a.fates mark))
    ∷ []

-- "Confirm: 9, 10, 16."
abbrev pub confirm_refusals : ℕ → ℕ → Account → ℕ → ℕ → List Refusal
confirm_refusals L first a base n =
    (9 when (a.final ≡ true))
    ∷ (10 when (modulus_of L ≤ n))
    ∷ (16 when NotToConfirm L first a base n)
    ∷ []

-- "Status: 9, 22, 20."; 22: "Final asked while listed runs exceed 162", 20: "buffer shorter than the frame"
abbrev pub status_refusals : ℕ → ℕ → Account → ℕ → ℕ → Bool → List ℕ → List Refusal
status_refusals L first a desired minimum final buffer =
    (9 when (a.final ≡ true))
    ∷ (22 when ((final ≡ true) × (162 < length (listed a))))
    ∷ (20 when (length buffer < length (status_octets (account_status L first a desired minimum final))))
    ∷ []

-- "Refusals: 9." (request Eight)
abbrev pub anything_refusals : Account → List Refusal
anything_refusals a =
    (9 when (a.final ≡ true))
    ∷ []

-- ---- the master, by its books b, and by the packets that wait and that are lost

-- "With entries waiting, forward from the oldest waiting entry's PDCP number to p must exceed that to the last sent, and be below 2^(L-1). With
-- none waiting, any p is allowed." (request Three); the first of the packets that wait is the oldest
abbrev pub FollowsOldest : ℕ → ℕ → Books → List ℕ → ℕ → Type 0
FollowsOldest L f b [] p = Unit
FollowsOldest L f b (i ∷ is) p =
    let o : ℕ = get_or b.sent i 0 in
    (forward (2 ^ L) o (last_sent L f b) < forward (2 ^ L) o p) × (forward (2 ^ L) o p < 2 ^ (L - 1))

-- 35: "In both cases p must differ from H" and "35 is given exactly when this rule is broken"
abbrev pub OutOfOrder : ℕ → ℕ → Books → List ℕ → ℕ → Type 0
OutOfOrder L f b waiting p = (p ≡ b.highest → ⊥) × FollowsOldest L f b waiting p → ⊥

-- 39: "a size outside the limits", which are "1 to 16,384 octets" (request Four)
abbrev pub NoSize : ℕ → Type 0
NoSize z = (z < 1) ⊎ (16384 < z)

-- "Send: 9, 10, 39, 35, 36." as request Four leaves it, 39 "after 10 in send"
abbrev pub send_refusals : ℕ → ℕ → Books → List ℕ → List ℕ → ℕ → ℕ → List Refusal
send_refusals L f b waiting lost p z =
    (9 when (b.final ≡ true))
    ∷ (10 when (2 ^ L ≤ p))
    ∷ (39 when NoSize z)
    ∷ (35 when OutOfOrder L f b waiting p)
    ∷ (36 when (512 ≤ length waiting + length lost))
    ∷ []

-- 33: "ranges, expanded in order, are not strictly rising numbers of waiting entries, rising meaning the order they were sent in"
abbrev pub NotRising : ℕ → ℕ → List ℕ → Status → Type 0
NotRising L first waiting s =
    (is : List ℕ) → Rising is → Each (λ (i : ℕ). In i waiting) is → map (number_of L first) is ≡ in_ranges L s.ranges → ⊥

-- 34: "highest is neither the last one accepted nor the PDCP number of a waiting entry that this frame leaves out of its ranges"
abbrev pub HighestUnknown : ℕ → ℕ → Books → List ℕ → Status → Type 0
HighestUnknown L first b waiting s =
    (s.highest ≡ b.highest → ⊥)
    × ((i : ℕ) → In i waiting → get_or b.sent i 0 ≡ s.highest → In (number_of L first i) (in_ranges L s.ranges))

-- "Accepting a status: 9, 1 to 6, 31, 32, 33, 34."; 31: "frame is not the bearer's status type", 32: "highest PDCP is 2^L or more"
abbrev pub accept_refusals : ℕ → ℕ → Books → List ℕ → List ℕ → List Refusal
accept_refusals L first b waiting octets =
    let s : Status = status_in (is_long L) octets in
    (9 when (b.final ≡ true))
    ∷ read_refusals octets
    ++ ((31 when (type_of octets ≡ status_type (is_long L) → ⊥))
    ∷ (32 when (2 ^ L ≤ s.highest))
    ∷ (33 when NotRising L first waiting s)
    ∷ (34 when HighestUnknown L first b waiting s)
    ∷ [])

-- 38: "take: nothing to take": no lost entry, and once closed no waiting one either
abbrev pub NothingToTake : Books → List ℕ → List ℕ → Type 0
NothingToTake b waiting lost = (lost ≡ []) × (b.final ≡ true → waiting ≡ [])

-- "Take: 38."
abbrev pub take_refusals : Books → List ℕ → List ℕ → List Refusal
take_refusals b waiting lost = (38 when NothingToTake b waiting lost) ∷ []

-- ---- what a refusal leaves, in every state: "Every refusal returns its number only; state and lent memory stay as before the call."

-- each call on a secondary
pub record SecondaryKeeps (k : K.Keeper) : Type 0 where
  pub arrivals : (n p : ℕ) → Keeps k (K.arrive k n p)
  pub expiries : (n : ℕ) → Keeps k (K.expire k n)
  pub confirms : (n : ℕ) → Keeps k (K.confirm k n)
  pub statuses : (d m : ℕ) (final : Bool) (buffer : List ℕ) → is_done (K.status k d m final buffer).answer ≡ false
      → ((K.status k d m final buffer).state ≡ k) × ((K.status k d m final buffer).buffer ≡ buffer)

-- each call on a master, whatever its entries are labelled with
pub record MasterKeeps {A : Type 0} (l : G.Ledger A) : Type 0 where
  pub sends : (p z : ℕ) (label : A) → Keeps l (G.send l p z label)
  pub accepts : (octets : List ℕ) → Keeps l (G.accept l octets)
  pub takes : Keeps l (G.take_oldest l)

-- either end, whatever its state
abbrev pub RefusalsKeep : Type 1
RefusalsKeep = ((k : K.Keeper) → SecondaryKeeps k) × ((A : Type 0) (l : G.Ledger A) → MasterKeeps l)

-- ---- what each call is refused with

-- each open of either end
abbrev pub OpensGiven : Type 0
OpensGiven = (L first f : ℕ) → Given (open_refusals L first f) (K.open_keeper L first f) × Given (open_refusals L first f) (G.open_ledger {A = ℕ} L first f)

-- each call on a secondary that calls reach
pub record CallsGiven (L first : ℕ) (k : K.Keeper) (a : Account) (base : ℕ) : Type 0 where
  pub arrivals : (n p : ℕ) → Given (arrival_refusals L first a base n p) (K.arrive k n p).answer
  pub expiries : (n : ℕ) → Given (expiry_refusals L first a base n) (K.expire k n).answer
  pub confirms : (n : ℕ) → Given (confirm_refusals L first a base n) (K.confirm k n).answer
  pub statuses : (d m : ℕ) (final : Bool) (buffer : List ℕ) → Given (status_refusals L first a d m final buffer) (K.status k d m final buffer).answer

-- every secondary that calls reach from open
abbrev pub SecondaryGiven : Type 0
SecondaryGiven = (L first f : ℕ) (k : K.Keeper) (a : Account) → Reached L first f k a → (base : ℕ) → Lowest a.fates base → CallsGiven L first k a base

-- and whether there is anything to say, asked of such a secondary
abbrev pub QuestionsGiven : Type 0
QuestionsGiven = (L first f : ℕ) (k : K.Keeper) (a : Account) → Reached L first f k a → Given (anything_refusals a) (K.anything k)

-- each call on a master that calls reach, where these packets wait and these are lost; a frame is of octets, so that its ranges are of
-- numbers below M
pub record MasterCallsGiven (L first f : ℕ) (l : G.Ledger ℕ) (b : Books) (waiting lost : List ℕ) : Type 0 where
  pub sends : (p z : ℕ) → Given (send_refusals L f b waiting lost p z) (G.send l p z (length b.sent)).answer
  pub accepts : (octets : List ℕ) → AreOctets octets → Given (accept_refusals L first b waiting octets) (G.accept l octets).answer
  pub takes : Given (take_refusals b waiting lost) (G.take_oldest l).answer

-- every master that calls reach from open
abbrev pub MasterGiven : Type 0
MasterGiven =
    (L first f : ℕ) (l : G.Ledger ℕ) (b : Books) → LedgerReached L first f l b
    → MasterCallsGiven L first f l b (packets (waiting_in l.entries)) (packets (lost_in l.entries))
