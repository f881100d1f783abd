-- The cases of document 01's bench sheet that are marked *, of frames and of both ends, as one table, and one statement: each
-- holds of the definitions. Below them stand bounds that the sheet doesn't name, and then the orders of refusals: where two adjacent ones apply,
-- the first is given.
-- Assumes nothing.
use mathlib.Core.Path.{◌≡◌, refl}
use mathlib.Core.Bool.{Bool, true, false}
use mathlib.Core.List.{List, [], ◌∷◌, ◌++◌, map}
use Prim.Native.Nat.{ℕ, ◌*◌, ◌/◌, ◌%◌}
use lib.ListN.{length, take, drop, replicate}
use Rattle.basics.specs.Basics.{Outcome, done, refused}
use Rattle.frame_layout.specs.Frames.{Range, Status, Reading, data_of, status_of, refuse, Written, unwritten, read_frame, write_data, write_status}
use Rattle.bearer.specs.Keeper as K
use Rattle.bearer.specs.Keeper.{◌with_closed◌, ◌with_runs◌, ◌with_records◌}
use Rattle.bearer.specs.Ledger as G
use Rattle.bearer.specs.Ledger.{◌with_sent◌, ◌with_octets◌, ◌with_oldest◌, ◌with_entries◌}
use Rattle.bearer.specs.Account.{packets_from}

-- a call on a secondary, and what it answers
pub data Call : Type 0 where
  -- a number and a PDCP number arrive
  arrives : ℕ → ℕ → Outcome ℕ → Call
  -- what is open before a mark expires
  expires : ℕ → Outcome ℕ → Call
  -- a number is confirmed
  confirms : ℕ → Outcome Unit → Call
  -- a status with desired size, minimum size and Final, and what is read in the frame that it built
  reports : ℕ → ℕ → Bool → Reading → Call
  -- it is asked whether there is anything to say
  asks : Outcome Bool → Call

-- a call on a master, and what it answers
pub data Turn : Type 0 where
  -- a PDU is sent: its PDCP number and its size
  puts : ℕ → ℕ → Outcome ℕ → Turn
  -- octets are accepted
  accepts : List ℕ → Outcome G.Accepted → Turn
  takes : Outcome G.Taken → Turn
  -- room is asked for, and the answer is room as request Four has it
  has_room : ℕ → Turn
  -- room is asked for, in a state that no call reaches
  answers_room : ℕ → Turn
  -- so much waits, by the sum that is kept
  keeps : ℕ → Turn

-- a case
pub data Case : Type 0 where
  -- a data frame of a form is written: its octets, or the refusal
  data_frame : Bool → ℕ → Outcome (List ℕ) → Case
  -- a status is written: its octets, or the refusal
  status_frame : Status → Outcome (List ℕ) → Case
  -- octets are read: the answer
  octets_read : List ℕ → Reading → Case
  -- calls on a secondary, one after another: their answers, and base afterwards
  secondary : Outcome K.Keeper → List Call → ℕ → Case
  -- a PDU of one octet is sent by a master: the answer
  master : Outcome (G.Ledger Unit) → ℕ → Outcome ℕ → Case
  -- calls on a master, one after another: their answers
  turns : Outcome (G.Ledger Unit) → List Turn → Case
  -- both ends are opened with L, a first number and a first PDCP number: the refusal
  not_opened : ℕ → ℕ → ℕ → ℕ → Case
  -- octets are not accepted by a master: the refusal
  not_accepted : Outcome (G.Ledger Unit) → List ℕ → ℕ → Case
  -- nothing is taken from a master: the refusal
  not_taken : Outcome (G.Ledger Unit) → ℕ → Case
  -- octets are accepted by a master: the desired and the minimum size that it holds afterwards
  status_sizes : Outcome (G.Ledger Unit) → List ℕ → ℕ → ℕ → Case

-- ---- what the cases say

-- the buffer that is written into, longer than any frame here
abbrev pub bench : List ℕ
bench = replicate 700 7

-- octets stand at the front of the bench's buffer, whose others stay; or it stays whole
abbrev pub leaves : Outcome (List ℕ) → Written
leaves (done frame) = record { answer = done (length frame); buffer = frame ++ drop (length frame) bench }
leaves (refused n) = unwritten n bench

-- what is read in a frame that was built at the front of a buffer
abbrev pub read_built : Outcome ℕ → List ℕ → Reading
read_built (done n) d = read_frame (take n d)
read_built (refused n) d = refuse n

-- what is read in the frame that a status built
abbrev pub read_report : K.Reported → Reading
read_report r = read_built r.answer r.buffer

-- calls are answered so, and base is so afterwards
abbrev pub CallsAnswered : K.Keeper → List Call → ℕ → Type 0
CallsAnswered k [] base = k.base ≡ base
CallsAnswered k (arrives n p a ∷ cs) base = ((K.arrive k n p).answer ≡ a) × CallsAnswered (K.arrive k n p).state cs base
CallsAnswered k (expires n a ∷ cs) base = ((K.expire k n).answer ≡ a) × CallsAnswered (K.expire k n).state cs base
CallsAnswered k (confirms n a ∷ cs) base = ((K.confirm k n).answer ≡ a) × CallsAnswered (K.confirm k n).state cs base
CallsAnswered k (reports d m final r ∷ cs) base = (read_report (K.status k d m final bench) ≡ r) × CallsAnswered (K.status k d m final bench).state cs base
CallsAnswered k (asks a ∷ cs) base = (K.anything k ≡ a) × CallsAnswered k cs base

-- calls on a master are answered so
abbrev pub TurnsAnswered : G.Ledger Unit → List Turn → Type 0
TurnsAnswered l [] = Unit
TurnsAnswered l (puts p z a ∷ ts) = ((G.send l p z tt).answer ≡ a) × TurnsAnswered (G.send l p z tt).state ts
TurnsAnswered l (accepts o a ∷ ts) = ((G.accept l o).answer ≡ a) × TurnsAnswered (G.accept l o).state ts
TurnsAnswered l (takes a ∷ ts) = ((G.take_oldest l).answer ≡ a) × TurnsAnswered (G.take_oldest l).state ts
TurnsAnswered l (has_room n ∷ ts) = (G.kept_room l ∷ G.room l ∷ [] ≡ n ∷ n ∷ []) × TurnsAnswered l ts
TurnsAnswered l (answers_room n ∷ ts) = (G.kept_room l ≡ n) × TurnsAnswered l ts
TurnsAnswered l (keeps n ∷ ts) = (l.octets ≡ n) × TurnsAnswered l ts

-- what is said of an end, which was opened
abbrev pub Of : {A : Type 0} → Outcome A → (A → Type 0) → Type 0
Of (done a) P = P a
Of (refused n) P = ⊥

-- what a case says
abbrev pub Holds : Case → Type 0
Holds (data_frame long n frame) = write_data long n bench ≡ leaves frame
Holds (status_frame s frame) = write_status s bench ≡ leaves frame
Holds (octets_read s r) = read_frame s ≡ r
Holds (secondary k cs base) = Of k (λ o. CallsAnswered o cs base)
Holds (master l p a) = Of l (λ o. (G.send o p 1 tt).answer ≡ a)
Holds (turns l ts) = Of l (λ o. TurnsAnswered o ts)
Holds (not_opened L first f n) = (K.open_keeper L first f ≡ refused n) × (G.open_ledger {A = Unit} L first f ≡ refused n)
Holds (not_accepted l s n) = Of l (λ o. (G.accept o s).answer ≡ refused n)
Holds (not_taken l n) = Of l (λ o. (G.take_oldest o).answer ≡ refused n)
Holds (status_sizes l s desired minimum) = Of l (λ o. ((G.accept o s).state.desired ≡ desired) × ((G.accept o s).state.minimum ≡ minimum))

-- every case of a table holds
abbrev pub AllHold : List Case → Type 0
AllHold [] = Unit
AllHold (c ∷ cs) = Holds c × AllHold cs

-- every case of every part of a table holds
abbrev pub PartsHold : List (List Case) → Type 0
PartsHold [] = Unit
PartsHold (cs ∷ ps) = AllHold cs × PartsHold ps

-- ---- words of the table

infix 6 ◌to◌
-- a range
abbrev pub ◌to◌ : ℕ → ℕ → Range
◌to◌ a b = record { start = a; end = b }

-- a status that isn't Final: its form, highest, desired size, minimum size and ranges
abbrev pub telling : Bool → ℕ → ℕ → ℕ → List Range → Status
telling long h d m ranges = record { long = long; final = false; highest = h; desired = d; minimum = m; ranges = ranges }

-- desired size 65,536 and minimum size 4,096 in a frame
abbrev pub size_octets : List ℕ
size_octets = 0x00 ∷ 0x01 ∷ 0x00 ∷ 0x00 ∷ 0x00 ∷ 0x00 ∷ 0x10 ∷ 0x00 ∷ []

-- arrivals on both sides of the rollover, expiry with the mark 0, and then other calls
abbrev pub over_rollover : List Call → List Call
over_rollover cs = arrives 65534 4095 (done 0) ∷ arrives 0 1 (done 0) ∷ expires 0 (done 1) ∷ cs

-- a status whose frame carries these runs and repeats the highest 0
abbrev pub tells : List Range → Call
tells rs = reports 0 0 false (status_of (telling false 0 0 0 rs))

-- so many runs of one number
abbrev pub runs : ℕ → List Range
runs n = map (λ (i : ℕ). 2 * i to 2 * i) (packets_from 0 n)

-- a secondary that lists so many runs
abbrev pub listing : ℕ → K.Keeper
listing n = K.fresh_keeper 12 1000 1 with_runs runs n

-- a secondary of the long form that does
abbrev pub listing_long : ℕ → K.Keeper
listing_long n = K.fresh_keeper 18 1000 1 with_runs runs n

-- so many records
abbrev pub records : ℕ → List K.Record
records n = map (λ (i : ℕ). K.new_record i i) (packets_from 0 n)

-- a confirmed record, with the PDCP number 0
abbrev pub delivered_at : ℕ → K.Record
delivered_at n = K.delivered (K.new_record n 0)

-- a secondary that holds so many records
abbrev pub recording : ℕ → K.Keeper
recording n = K.fresh_keeper 12 1000 1 with_records records n

-- a PDU of one octet is sent
abbrev pub sends : ℕ → Outcome ℕ → Turn
sends p a = puts p 1 a

-- a master that holds so many entries of 16,384 octets each, and their sum
abbrev pub filled : ℕ → G.Ledger Unit
filled n = G.fresh_ledger {A = Unit} 12 1000 1 with_sent 999 with_octets n * 16384 with_entries map (λ (i : ℕ). G.new_entry i i 16384 tt) (packets_from 0 n)

-- two ranges of the short form, and a frame that bears them
abbrev pub two_short : List Range
two_short = (0x0B0C to 0x0D0E) ∷ (0x0F10 to 0x1112) ∷ []

abbrev pub short_frame : List ℕ
short_frame = 0x11 ∷ 0x01 ∷ 0x02 ∷ 0x03 ∷ 0x04 ∷ 0x05 ∷ 0x06 ∷ 0x07 ∷ 0x08 ∷ 0x09 ∷ 0x0A ∷ 0x02 ∷ 0x0B ∷ 0x0C ∷ 0x0D ∷ 0x0E ∷ 0x0F ∷ 0x10 ∷ 0x11 ∷ 0x12 ∷ 0 ∷ 0 ∷ []

-- two ranges of the long form, and a frame that bears them
abbrev pub two_long : List Range
two_long = (0x0C0D0E to 0x0F1011) ∷ (0x121314 to 0x151617) ∷ []

abbrev pub long_frame : List ℕ
long_frame = 0x21 ∷ 0x01 ∷ 0x02 ∷ 0x03 ∷ 0x04 ∷ 0x05 ∷ 0x06 ∷ 0x07 ∷ 0x08 ∷ 0x09 ∷ 0x0A ∷ 0x0B ∷ 0x02 ∷ 0x0C ∷ 0x0D ∷ 0x0E ∷ 0x0F ∷ 0x10 ∷ 0x11 ∷ 0x12 ∷ 0x13 ∷ 0x14 ∷ 0x15 ∷ 0x16 ∷ 0x17 ∷ 0 ∷ []

-- seven octets behind the last field of a frame
abbrev pub extension : List ℕ
extension = replicate 7 0xFF

-- a closed secondary, and a closed master
abbrev pub shut : K.Keeper
shut = K.fresh_keeper 12 1000 1 with_closed true

abbrev pub closed : G.Ledger Unit
closed = G.fresh 12 0 0 true

-- both sizes 0, and the range of one number, in a frame
abbrev pub one_range : ℕ → List ℕ
one_range n = replicate 8 0 ++ (0x01 ∷ 0x00 ∷ n ∷ 0x00 ∷ n ∷ 0x00 ∷ 0x00 ∷ [])

-- a frame of the short form that names a highest and no range, and one that names a number and the highest 4095
abbrev pub highest_only : ℕ → List ℕ
highest_only h = 0x10 ∷ 0x00 ∷ h ∷ replicate 11 0

abbrev pub lost_only : ℕ → List ℕ
lost_only n = 0x11 ∷ 0x0F ∷ 0xFF ∷ one_range n

-- a desired size and the minimum size 7 in a frame
abbrev pub desiring : ℕ → List ℕ
desiring d = d / 16777216 ∷ d / 65536 % 256 ∷ d / 256 % 256 ∷ d % 256 ∷ 0 ∷ 0 ∷ 0 ∷ 7 ∷ []

-- a frame of the short form with a first octet, a highest, the range of the numbers from a through b, and a desired size
abbrev pub loses_from : ℕ → ℕ → ℕ → ℕ → ℕ → List ℕ
loses_from o h a b d = o ∷ h / 256 ∷ h % 256 ∷ desiring d ++ (0x01 ∷ 0x00 ∷ a ∷ 0x00 ∷ b ∷ 0x00 ∷ 0x00 ∷ [])

-- one that names a number, with a highest and a desired size
abbrev pub loses_under : ℕ → ℕ → ℕ → List ℕ
loses_under h n d = loses_from 0x11 h n n d

-- a frame of the short form with a highest and a desired size; one with Final, and one that names a number, both with the highest 4095
abbrev pub wants : ℕ → ℕ → List ℕ
wants h d = 0x10 ∷ h / 256 ∷ h % 256 ∷ desiring d ++ replicate 3 0

abbrev pub ends : ℕ → List ℕ
ends d = 0x12 ∷ 0x0F ∷ 0xFF ∷ desiring d ++ replicate 3 0

abbrev pub loses : ℕ → ℕ → List ℕ
loses n d = loses_under 4095 n d

-- a status by which so many were freed and so many became lost, one with Final that did neither, and what was taken, of one octet and of others
abbrev pub counts : ℕ → ℕ → Outcome G.Accepted
counts freed lost = done (record { freed = freed; lost = lost; final = false })

abbrev pub ended : Outcome G.Accepted
ended = done (record { freed = 0; lost = 0; final = true })

abbrev pub taken_of : ℕ → ℕ → ℕ → Outcome G.Taken
taken_of n p z = done (record { number = n; pdcp = p; size = z })

abbrev pub taken : ℕ → ℕ → Outcome G.Taken
taken n p = taken_of n p 1

-- ---- the table

-- the marked cases of the sheet, in its order
abbrev pub sheet : List Case
sheet =
    data_frame false 4660 (done (0x00 ∷ 0x12 ∷ 0x34 ∷ 0 ∷ 0 ∷ 0 ∷ []))
    ∷ data_frame true 43981 (done (0x30 ∷ 0x00 ∷ 0xAB ∷ 0xCD ∷ 0 ∷ 0 ∷ []))
    ∷ status_frame (telling false 120 65536 4096 ((7 to 9) ∷ [])) (done (0x11 ∷ 0x00 ∷ 0x78 ∷ size_octets ++ (0x01 ∷ 0x00 ∷ 0x07 ∷ 0x00 ∷ 0x09 ∷ 0x00 ∷ 0x00 ∷ [])))
    ∷ status_frame (record { long = true; final = true; highest = 262143; desired = 0; minimum = 0; ranges = [] }) (done (0x22 ∷ 0x03 ∷ 0xFF ∷ 0xFF ∷ replicate 10 0))
    ∷ octets_read [] (refuse 1)
    ∷ octets_read (replicate 8 0) (refuse 1)
    ∷ octets_read (0x40 ∷ replicate 5 0) (refuse 2)
    ∷ secondary (K.open_keeper 12 0 0) (arrives 255 0 (done 0) ∷ []) 0
    ∷ secondary (K.open_keeper 12 0 0) (arrives 256 0 (done 1) ∷ []) 1
    ∷ secondary (K.open_keeper 12 0 0) (arrives 32767 0 (done 32512) ∷ []) 32512
    ∷ secondary (K.open_keeper 12 0 0) (arrives 32768 0 (refused 18) ∷ []) 0
    ∷ secondary (K.open_keeper 12 0 0) (arrives 256 0 (done 1) ∷ arrives 32768 0 (refused 13) ∷ []) 1
    ∷ secondary (K.open_keeper 12 65534 4095) (over_rollover []) 1
    ∷ secondary (K.open_keeper 12 65534 4095) (over_rollover (confirms 0 (done tt) ∷ reports 65536 4096 false (status_of (telling false 4094 65536 4096 ((65535 to 65535) ∷ []))) ∷ [])) 1
    ∷ master (G.open_ledger 12 0 0) 2046 (done 0)
    ∷ master (G.open_ledger 12 0 0) 2047 (done 0)
    ∷ []

-- what can be written: the X2-U numbers, highest PDCP numbers and counts of ranges
abbrev pub written : List Case
written =
    data_frame false 65535 (done (0x00 ∷ 0xFF ∷ 0xFF ∷ 0 ∷ 0 ∷ 0 ∷ []))
    ∷ data_frame false 65536 (refused 10)
    ∷ data_frame true 16777215 (done (0x30 ∷ 0xFF ∷ 0xFF ∷ 0xFF ∷ 0 ∷ 0 ∷ []))
    ∷ data_frame true 16777216 (refused 10)
    ∷ status_frame (telling false 32767 0 0 []) (done (0x10 ∷ 0x7F ∷ 0xFF ∷ replicate 11 0))
    ∷ status_frame (telling false 32768 0 0 []) (refused 4)
    ∷ status_frame (telling true 262144 0 0 []) (refused 4)
    ∷ status_frame (telling false 0 0 0 (replicate 162 (0 to 0))) (done (0x11 ∷ replicate 10 0 ++ (162 ∷ replicate 650 0)))
    ∷ status_frame (telling false 0 0 0 (replicate 163 (0 to 0))) (refused 5)
    ∷ []

-- where each octet of a list stands, in both forms
abbrev pub laid : List Case
laid =
    status_frame (telling false 0x0102 0x03040506 0x0708090A two_short) (done short_frame)
    ∷ octets_read short_frame (status_of (telling false 0x0102 0x03040506 0x0708090A two_short))
    ∷ status_frame (telling true 0x010203 0x04050607 0x08090A0B two_long) (done long_frame)
    ∷ octets_read long_frame (status_of (telling true 0x010203 0x04050607 0x08090A0B two_long))
    ∷ []

-- what is read: lengths and types, and frames of each type with all spare bits set and an extension, which are never looked at
abbrev pub are_read : List Case
are_read =
    octets_read (replicate 2 0) (refuse 1)
    ∷ octets_read (replicate 6 0) (data_of false 0)
    ∷ octets_read (replicate 1018 0) (data_of false 0)
    ∷ octets_read (replicate 1022 0) (refuse 1)
    ∷ octets_read (0xF0 ∷ replicate 5 0) (refuse 2)
    ∷ octets_read (0x0F ∷ 0x12 ∷ 0x34 ∷ extension) (data_of false 4660)
    ∷ octets_read (0x3F ∷ 0x00 ∷ 0xAB ∷ 0xCD ∷ drop 1 extension) (data_of true 43981)
    ∷ octets_read (0x1F ∷ 0x00 ∷ 0x78 ∷ size_octets ++ (0x01 ∷ 0x00 ∷ 0x07 ∷ 0x00 ∷ 0x09 ∷ drop 1 extension)) (status_of (record { long = false; final = true; highest = 120; desired = 65536; minimum = 4096; ranges = (7 to 9) ∷ [] }))
    ∷ octets_read (0x2C ∷ 0x03 ∷ 0xFF ∷ 0xFF ∷ size_octets ++ drop 1 extension) (status_of (telling true 262143 65536 4096 []))
    ∷ []

-- each L has its circles: 15 bits and the short form, 18 bits and the long one; a record and a listed number opposite base lie before it
abbrev pub circles : List Case
circles =
    secondary (K.open_keeper 15 0 0) (arrives 32767 32767 (done 32512) ∷ []) 32512
    ∷ secondary (K.open_keeper 15 0 0) (arrives 32768 0 (refused 18) ∷ arrives 32769 0 (refused 11) ∷ arrives 0 32768 (refused 10) ∷ []) 0
    ∷ secondary (K.open_keeper 18 0 0) (arrives 8388607 262143 (done 8388352) ∷ []) 8388352
    ∷ secondary (K.open_keeper 18 0 0) (arrives 8388608 0 (refused 18) ∷ arrives 8388609 0 (refused 11) ∷ arrives 0 262144 (refused 10) ∷ []) 0
    ∷ secondary (K.open_keeper 12 0 0) (arrives 0 0 (done 0) ∷ arrives 32767 0 (done 32511) ∷ expires 32767 (done 255) ∷ confirms 0 (done tt) ∷ arrives 0 0 (refused 18) ∷ arrives 1 0 (refused 11) ∷ arrives 32768 0 (refused 13) ∷ []) 32768
    ∷ secondary (K.open_keeper 12 0 0) (arrives 32767 0 (done 32512) ∷ expires 32767 (done 255) ∷ arrives 0 0 (refused 18) ∷ arrives 1 0 (refused 11) ∷ arrives 32768 0 (refused 13) ∷ []) 32768
    ∷ turns (G.open_ledger 15 0 0) (sends 32767 (refused 35) ∷ sends 0 (done 0) ∷ sends 16384 (refused 35) ∷ sends 16383 (done 1) ∷ [])
    ∷ turns (G.open_ledger 18 0 0) (sends 262143 (refused 35) ∷ sends 0 (done 0) ∷ sends 131072 (refused 35) ∷ sends 131071 (done 1) ∷ [])
    ∷ not_opened 15 65536 0 10
    ∷ not_opened 15 0 32768 10
    ∷ not_opened 18 16777216 0 10
    ∷ not_opened 18 0 262144 10
    ∷ []

-- expiry by its mark (request Six)
abbrev pub marked : List Case
marked =
    -- the mark itself is spared, open or not; a gap past the mark stays open; the next expiry takes the rest
    secondary (K.open_keeper 12 10 0) (arrives 12 0 (done 0) ∷ arrives 15 0 (done 0) ∷ expires 11 (done 1) ∷ expires 11 (refused 17) ∷ expires 12 (done 1) ∷ expires 12 (refused 17) ∷ expires 15 (done 2) ∷ []) 16
    ∷ secondary (K.open_keeper 12 10 0) (arrives 11 0 (done 0) ∷ arrives 13 0 (done 0) ∷ expires 11 (done 1) ∷ arrives 12 0 (done 0) ∷ []) 14
    ∷ secondary (K.open_keeper 12 10 0) (arrives 15 0 (done 0) ∷ expires 13 (done 3) ∷ arrives 13 0 (done 0) ∷ arrives 14 0 (done 0) ∷ []) 16
    -- 19 past the highest accepted, up to, and without, half the circle; from there on the mark lies behind
    ∷ secondary (K.open_keeper 12 0 0) (arrives 5 0 (done 0) ∷ expires 6 (refused 19) ∷ expires 32767 (refused 19) ∷ expires 32768 (refused 17) ∷ expires 32769 (refused 17) ∷ expires 65535 (refused 17) ∷ expires 65536 (refused 10) ∷ expires 5 (done 5) ∷ []) 6
    -- nothing at or past base is accepted: 19 at base too
    ∷ secondary (K.open_keeper 12 0 0) (expires 0 (refused 19) ∷ expires 1 (refused 19) ∷ expires 65535 (refused 17) ∷ arrives 0 0 (done 0) ∷ expires 0 (refused 17) ∷ expires 1 (refused 19) ∷ expires 2 (refused 19) ∷ arrives 2 0 (done 0) ∷ expires 1 (refused 17) ∷ expires 2 (done 1) ∷ []) 3
    -- over the rollover, at each form
    ∷ secondary (K.open_keeper 15 65534 0) (arrives 1 0 (done 0) ∷ expires 2 (refused 19) ∷ expires 65533 (refused 17) ∷ expires 65535 (done 1) ∷ expires 0 (done 1) ∷ expires 1 (done 1) ∷ []) 2
    ∷ secondary (K.open_keeper 18 16777214 0) (arrives 1 0 (done 0) ∷ expires 16777216 (refused 10) ∷ expires 8388605 (refused 19) ∷ expires 8388606 (refused 17) ∷ expires 0 (done 2) ∷ []) 0
    -- a record opposite base is before it, and no highest accepted at or past base
    ∷ secondary (done (K.fresh_keeper 12 1000 1 with_records (K.new_record 33768 0 ∷ []))) (expires 1000 (refused 19) ∷ expires 33767 (refused 19) ∷ expires 33768 (refused 17) ∷ []) 1000
    -- what is listed then: each gap before the mark, joined where they adjoin, also those of two expiries and over the rollover, but not those reported
    ∷ secondary (K.open_keeper 12 10 1) (arrives 12 0 (done 0) ∷ arrives 14 0 (done 0) ∷ arrives 16 0 (done 0) ∷ arrives 17 0 (done 0) ∷ arrives 19 0 (done 0) ∷ expires 16 (done 4) ∷ tells ((10 to 11) ∷ (13 to 13) ∷ (15 to 15) ∷ []) ∷ []) 18
    ∷ secondary (K.open_keeper 12 10 1) (arrives 15 0 (done 0) ∷ expires 11 (done 1) ∷ expires 13 (done 2) ∷ arrives 13 0 (done 0) ∷ expires 15 (done 1) ∷ tells ((10 to 12) ∷ (14 to 14) ∷ []) ∷ []) 16
    ∷ secondary (K.open_keeper 12 65534 1) (arrives 2 0 (done 0) ∷ expires 0 (done 2) ∷ expires 1 (done 1) ∷ tells ((65534 to 0) ∷ []) ∷ []) 1
    ∷ secondary (K.open_keeper 12 10 1) (arrives 15 0 (done 0) ∷ expires 12 (done 2) ∷ tells ((10 to 11) ∷ []) ∷ expires 14 (done 2) ∷ tells ((12 to 13) ∷ []) ∷ []) 14
    -- 14 by the runs before the mark, once they are joined
    ∷ secondary (done (listing 255 with_records (K.new_record 1001 0 ∷ K.new_record 1003 0 ∷ []))) (expires 1003 (refused 14) ∷ expires 1001 (done 1) ∷ expires 1003 (refused 14) ∷ []) 1002
    ∷ secondary (done (K.fresh_keeper 12 511 1 with_runs runs 256 with_records (K.new_record 513 0 ∷ []))) (expires 512 (done 1) ∷ expires 513 (done 1) ∷ []) 514
    -- with packet 0 alone accepted, 32768 is half the circle less 1 forward from base, and 32769 is half of it
    ∷ secondary (K.open_keeper 12 0 1) (arrives 0 0 (done 0) ∷ expires 32768 (refused 19) ∷ expires 32769 (refused 17) ∷ []) 1
    -- a mark kept for a turn: 17, then 19, and then what is open before the packet of a turn later is lost
    ∷ secondary (K.open_keeper 12 0 1) (arrives 0 0 (done 0) ∷ confirms 0 (done tt) ∷ tells [] ∷ arrives 32767 0 (done 32511) ∷ tells ((1 to 32511) ∷ []) ∷ expires 0 (refused 17) ∷ arrives 65000 0 (done 32232) ∷ expires 0 (refused 19) ∷ tells ((32512 to 32766) ∷ (32768 to 64744) ∷ []) ∷ confirms 32767 (done tt) ∷ tells [] ∷ arrives 5 0 (done 540) ∷ expires 0 (done 250) ∷ []) 0
    -- the last record counts, not the window: a record 300 past base, which no calls make
    ∷ secondary (done (K.fresh_keeper 12 1000 1 with_records (K.new_record 1001 0 ∷ K.new_record 1300 0 ∷ []))) (expires 1001 (done 1) ∷ []) 1002
    ∷ []

-- whether there is anything to say (request Eight)
abbrev pub to_say : List Case
to_say =
    -- nothing has come; an unconfirmed record; a confirmed one, though its PDCP number is the one reported last; and once that is said
    secondary (K.open_keeper 12 0 1) (asks (done false) ∷ arrives 0 0 (done 0) ∷ asks (done false) ∷ confirms 0 (done tt) ∷ asks (done true) ∷ tells [] ∷ asks (done false) ∷ []) 1
    -- a confirmed record behind one that isn't, the last or not, is not said yet; the first is, whatever stands behind it
    ∷ secondary (K.open_keeper 15 7 1) (arrives 7 1 (done 0) ∷ arrives 8 2 (done 0) ∷ arrives 9 3 (done 0) ∷ confirms 9 (done tt) ∷ asks (done false) ∷ confirms 8 (done tt) ∷ asks (done false) ∷ confirms 7 (done tt) ∷ asks (done true) ∷ reports 0 0 false (status_of (telling false 3 0 0 [])) ∷ asks (done false) ∷ []) 10
    ∷ secondary (K.open_keeper 18 16777215 1) (arrives 16777215 1 (done 0) ∷ arrives 0 2 (done 0) ∷ confirms 16777215 (done tt) ∷ asks (done true) ∷ reports 0 0 false (status_of (telling true 1 0 0 [])) ∷ asks (done false) ∷ []) 1
    -- a gap alone says nothing; once it is given up, a run does, with no record confirmed, over the rollover, by an arrival, and with no record at all
    ∷ secondary (K.open_keeper 12 65534 4095) (arrives 65534 4095 (done 0) ∷ arrives 0 1 (done 0) ∷ asks (done false) ∷ expires 0 (done 1) ∷ asks (done true) ∷ reports 0 0 false (status_of (telling false 4094 0 0 ((65535 to 65535) ∷ []))) ∷ asks (done false) ∷ confirms 0 (done tt) ∷ asks (done false) ∷ confirms 65534 (done tt) ∷ asks (done true) ∷ reports 0 0 false (status_of (telling false 1 0 0 [])) ∷ asks (done false) ∷ []) 1
    ∷ secondary (K.open_keeper 12 65535 1) (arrives 2 0 (done 0) ∷ asks (done false) ∷ expires 2 (done 3) ∷ asks (done true) ∷ tells ((65535 to 1) ∷ []) ∷ asks (done false) ∷ []) 3
    ∷ secondary (K.open_keeper 15 0 1) (arrives 256 0 (done 1) ∷ asks (done true) ∷ tells ((0 to 0) ∷ []) ∷ asks (done false) ∷ []) 1
    ∷ secondary (done (listing 1)) (asks (done true) ∷ tells (runs 1) ∷ asks (done false) ∷ []) 1000
    -- a first record opposite base
    ∷ secondary (K.open_keeper 12 0 1) (arrives 0 0 (done 0) ∷ arrives 32767 0 (done 32511) ∷ expires 32767 (done 255) ∷ tells ((1 to 32766) ∷ []) ∷ asks (done false) ∷ confirms 0 (done tt) ∷ asks (done true) ∷ tells [] ∷ asks (done false) ∷ []) 32768
    -- a status that is refused has said nothing, nor has one said the run that it left out, with a record behind it; one on a no says nothing new
    ∷ secondary (done (listing 163)) (reports 0 0 true (refuse 22) ∷ asks (done true) ∷ []) 1000
    ∷ secondary (done (K.fresh_keeper 12 1000 5 with_runs ((324 to 324) ∷ []) with_records (K.delivered (K.new_record 325 6) ∷ []))) (asks (done true) ∷ reports 0 0 false (status_of (telling false 6 0 0 ((324 to 324) ∷ []))) ∷ asks (done false) ∷ reports 0 0 false (status_of (telling false 6 0 0 [])) ∷ asks (done false) ∷ []) 1000
    ∷ secondary (done (listing 256)) (asks (done true) ∷ []) 1000
    ∷ secondary (done (listing_long 162)) (reports 0 0 false (refuse 20) ∷ asks (done true) ∷ []) 1000
    -- 512 records, of which the last or the first is confirmed
    ∷ secondary (done (K.fresh_keeper 12 1000 1 with_records (records 511 ++ (delivered_at 511 ∷ [])))) (asks (done false) ∷ []) 1000
    ∷ secondary (done (K.fresh_keeper 12 1000 1 with_records (delivered_at 65535 ∷ records 511))) (asks (done true) ∷ []) 1000
    -- in states that no calls reach: a first record confirmed at base and past it, and one opposite base that isn't, though the next is; a run at base
    -- and opposite it; a status that its writer refuses with 4 and with 10
    ∷ secondary (done (K.fresh_keeper 12 1000 1 with_records (delivered_at 1000 ∷ []))) (asks (done true) ∷ []) 1000
    ∷ secondary (done (K.fresh_keeper 12 1000 1 with_records (delivered_at 1300 ∷ K.new_record 1001 0 ∷ []))) (asks (done true) ∷ []) 1000
    ∷ secondary (done (K.fresh_keeper 12 1000 1 with_records (K.new_record 33768 0 ∷ delivered_at 33769 ∷ []))) (asks (done false) ∷ []) 1000
    ∷ secondary (done (K.fresh_keeper 12 1000 1 with_runs ((1000 to 1000) ∷ []))) (asks (done true) ∷ []) 1000
    ∷ secondary (done (K.fresh_keeper 12 1000 1 with_runs ((33768 to 33768) ∷ []))) (asks (done true) ∷ []) 1000
    ∷ secondary (done (K.fresh_keeper 12 1000 1 with_records (K.delivered (K.new_record 0 32768) ∷ []))) (reports 0 0 false (refuse 4) ∷ asks (done true) ∷ []) 1000
    ∷ secondary (done (K.fresh_keeper 12 1000 1 with_runs ((65536 to 0) ∷ []))) (reports 0 0 false (refuse 10) ∷ asks (done true) ∷ []) 1000
    -- 9 on a closed end, whatever it holds, and once Final was sent
    ∷ secondary (done shut) (asks (refused 9) ∷ []) 1000
    ∷ secondary (done (listing 1 with_closed true)) (asks (refused 9) ∷ []) 1000
    ∷ secondary (done (listing 1 with_closed true with_records (delivered_at 1 ∷ []))) (asks (refused 9) ∷ []) 1000
    ∷ secondary (done (shut with_records (delivered_at 1 ∷ []))) (asks (refused 9) ∷ []) 1000
    ∷ secondary (K.open_keeper 12 0 1) (arrives 0 5 (done 0) ∷ reports 0 0 true (status_of (record { long = false; final = true; highest = 0; desired = 0; minimum = 0; ranges = [] })) ∷ asks (refused 9) ∷ confirms 0 (refused 9) ∷ asks (refused 9) ∷ []) 1
    ∷ []

-- the PDCP order of sends (request Three)
abbrev pub rested : List Case
rested =
    -- with none waiting any PDCP number but H; with one waiting past the last sent, and less than 2^(L-1) past the oldest
    turns (G.open_ledger 12 0 0) (sends 4095 (refused 35) ∷ sends 5 (done 0) ∷ sends 5 (refused 35) ∷ sends 4 (refused 35) ∷ sends 2053 (refused 35) ∷ sends 2052 (done 1) ∷ [])
    -- all was freed, and then went over the master alone: only H is refused, and a PDU may be sent again; with entries waiting H is refused too
    ∷ turns (G.open_ledger 12 0 0) (sends 7 (done 0) ∷ sends 9 (done 1) ∷ accepts (highest_only 9) (counts 2 0) ∷ sends 9 (refused 35) ∷ sends 7 (done 2) ∷ [])
    ∷ turns (G.open_ledger 12 0 0) (sends 9 (done 0) ∷ accepts (highest_only 9) (counts 1 0) ∷ sends 2057 (done 1) ∷ sends 8 (done 2) ∷ [])
    ∷ turns (G.open_ledger 12 0 0) (sends 9 (done 0) ∷ accepts (highest_only 9) (counts 1 0) ∷ sends 7 (done 1) ∷ sends 9 (refused 35) ∷ sends 8 (done 2) ∷ sends 10 (done 3) ∷ [])
    -- all became lost: so too, and the last sent isn't looked at, held or taken
    ∷ turns (G.open_ledger 12 0 0) (sends 5 (done 0) ∷ accepts (lost_only 0) (counts 0 1) ∷ sends 5 (done 1) ∷ takes (taken 0 5) ∷ sends 5 (refused 35) ∷ sends 2052 (done 2) ∷ [])
    ∷ turns (G.open_ledger 12 0 0) (sends 50 (done 0) ∷ accepts (lost_only 0) (counts 0 1) ∷ sends 40 (done 1) ∷ sends 50 (done 2) ∷ [])
    -- a lost entry in front doesn't count, taken or not, nor does one behind
    ∷ turns (G.open_ledger 12 0 0) (sends 0 (done 0) ∷ sends 1 (done 1) ∷ sends 2 (done 2) ∷ accepts (lost_only 0) (counts 0 1) ∷ sends 2049 (refused 35) ∷ sends 2047 (done 3) ∷ sends 2048 (done 4) ∷ [])
    ∷ turns (G.open_ledger 12 0 0) (sends 0 (done 0) ∷ sends 1 (done 1) ∷ sends 2 (done 2) ∷ accepts (lost_only 0) (counts 0 1) ∷ takes (taken 0 0) ∷ sends 2049 (refused 35) ∷ sends 2048 (done 3) ∷ [])
    ∷ turns (G.open_ledger 12 0 0) (sends 0 (done 0) ∷ sends 1 (done 1) ∷ accepts (lost_only 1) (counts 0 1) ∷ sends 2048 (refused 35) ∷ sends 2047 (done 2) ∷ [])
    -- nor one that comes to stand in front when others are freed
    ∷ turns (G.open_ledger 12 0 0) (sends 0 (done 0) ∷ sends 1 (done 1) ∷ sends 2 (done 2) ∷ accepts (lost_only 1) (counts 0 1) ∷ accepts (highest_only 0) (counts 1 0) ∷ sends 2050 (refused 35) ∷ sends 2049 (done 3) ∷ [])
    -- with entries waiting the last sent counts, lost or taken
    ∷ turns (G.open_ledger 12 0 0) (sends 0 (done 0) ∷ sends 3 (done 1) ∷ accepts (lost_only 1) (counts 0 1) ∷ sends 3 (refused 35) ∷ takes (taken 1 3) ∷ sends 3 (refused 35) ∷ sends 4 (done 2) ∷ [])
    ∷ []

-- sizes and room (request Four)
abbrev pub bytes : List Case
bytes =
    -- sizes of 1 to 16,384 octets; no room before any status, nothing sent or something; a PDU beyond the room is sent
    turns (G.open_ledger 12 0 0) (has_room 0 ∷ puts 0 0 (refused 39) ∷ puts 0 16385 (refused 39) ∷ puts 0 65537 (refused 39) ∷ puts 0 1 (done 0) ∷ puts 1 16384 (done 1) ∷ has_room 0 ∷ accepts (wants 4095 16386) (counts 0 0) ∷ has_room 1 ∷ puts 2 16384 (done 2) ∷ has_room 0 ∷ [])
    -- the desired size, and not the minimum, less what waits; 0 where both are the same or less is desired; the last status counts
    ∷ turns (G.open_ledger 12 0 0) (puts 0 100 (done 0) ∷ accepts (wants 4095 151) (counts 0 0) ∷ puts 1 50 (done 1) ∷ has_room 1 ∷ accepts (wants 4095 150) (counts 0 0) ∷ has_room 0 ∷ accepts (wants 4095 149) (counts 0 0) ∷ has_room 0 ∷ accepts (wants 4095 200) (counts 0 0) ∷ has_room 50 ∷ [])
    -- a refused status changes no room, nor does a refused send; less is desired than the minimum, and nothing
    ∷ turns (G.open_ledger 12 0 0) (accepts (wants 4095 200) (counts 0 0) ∷ accepts (wants 5 900) (refused 34) ∷ accepts (loses 9 900) (refused 33) ∷ has_room 200 ∷ puts 0 16385 (refused 39) ∷ puts 4095 8 (refused 35) ∷ has_room 200 ∷ accepts (wants 4095 5) (counts 0 0) ∷ has_room 5 ∷ accepts (wants 4095 0) (counts 0 0) ∷ has_room 0 ∷ [])
    -- lost ones don't count, taken or not, nor do freed ones; a take answers the size of what it takes
    ∷ turns (G.open_ledger 12 0 0) (puts 0 100 (done 0) ∷ puts 1 50 (done 1) ∷ puts 2 7 (done 2) ∷ accepts (loses 1 1000) (counts 0 1) ∷ has_room 893 ∷ takes (taken_of 1 1 50) ∷ has_room 893 ∷ accepts (wants 0 1000) (counts 1 0) ∷ has_room 993 ∷ [])
    -- a closed end has room, and what is taken of it as waiting counts no more
    ∷ turns (G.open_ledger 12 0 0) (puts 0 100 (done 0) ∷ puts 1 50 (done 1) ∷ accepts (ends 1000) ended ∷ has_room 850 ∷ takes (taken_of 0 0 100) ∷ has_room 950 ∷ takes (taken_of 1 1 50) ∷ takes (refused 38) ∷ has_room 1000 ∷ [])
    -- lost ones don't count there either; a status that is refused with 9 changes nothing
    ∷ turns (G.open_ledger 12 0 0) (puts 0 100 (done 0) ∷ puts 1 50 (done 1) ∷ puts 2 7 (done 2) ∷ accepts (loses 1 900) (counts 0 1) ∷ accepts (ends 1000) ended ∷ has_room 893 ∷ takes (taken_of 0 0 100) ∷ takes (taken_of 1 1 50) ∷ accepts (wants 4095 5) (refused 9) ∷ has_room 993 ∷ takes (taken_of 2 2 7) ∷ has_room 1000 ∷ [])
    -- a PDU that is sent again has its own size each time
    ∷ turns (G.open_ledger 12 0 0) (puts 5 10 (done 0) ∷ accepts (loses 0 100) (counts 0 1) ∷ puts 5 20 (done 1) ∷ has_room 80 ∷ takes (taken_of 0 5 10) ∷ has_room 80 ∷ [])
    -- the long form, over the rollover of the X2-U numbers
    ∷ turns (G.open_ledger 18 16777215 0) (puts 0 16385 (refused 39) ∷ puts 0 100 (done 16777215) ∷ puts 1 50 (done 0) ∷ accepts (0x20 ∷ 0x03 ∷ 0xFF ∷ 0xFF ∷ desiring 151 ++ replicate 2 0) (counts 0 0) ∷ has_room 1 ∷ [])
    -- the most that waits, and the most that is desired
    ∷ turns (done (filled 512)) (has_room 0 ∷ accepts (wants 0 4294967295) (counts 0 0) ∷ has_room 4286578687 ∷ accepts (wants 0 8388608) (counts 0 0) ∷ has_room 0 ∷ [])
    ∷ []

-- the sum of the waiting sizes (request Five)
abbrev pub summed : List Case
summed =
    -- a send raises it, what becomes lost lowers it and its take doesn't, what is freed lowers it; refused calls don't, nor a frame that frees none
    turns (G.open_ledger 12 0 0) (keeps 0 ∷ puts 0 100 (done 0) ∷ puts 1 50 (done 1) ∷ puts 2 7 (done 2) ∷ puts 3 16384 (done 3) ∷ keeps 16541 ∷ puts 4 16385 (refused 39) ∷ puts 3 5 (refused 35) ∷ accepts (loses 9 900) (refused 33) ∷ accepts (loses_under 9 1 900) (refused 34) ∷ takes (refused 38) ∷ keeps 16541 ∷ accepts (loses 1 900) (counts 0 1) ∷ keeps 16491 ∷ takes (taken_of 1 1 50) ∷ keeps 16491 ∷ accepts (wants 0 900) (counts 1 0) ∷ keeps 16391 ∷ accepts (wants 0 900) (counts 0 0) ∷ keeps 16391 ∷ accepts (wants 3 900) (counts 2 0) ∷ keeps 0 ∷ [])
    -- one frame by which an entry is lost between two that are freed
    ∷ turns (G.open_ledger 12 0 0) (puts 0 100 (done 0) ∷ puts 1 50 (done 1) ∷ puts 2 7 (done 2) ∷ puts 3 3 (done 3) ∷ accepts (loses_under 2 1 900) (counts 2 1) ∷ keeps 3 ∷ has_room 897 ∷ takes (taken_of 1 1 50) ∷ keeps 3 ∷ [])
    -- three lost by two ranges, and passed over when what stands behind them is freed; a list that is refused changes nothing, though it names what waits
    ∷ turns (G.open_ledger 12 0 0) (puts 0 1 (done 0) ∷ puts 1 20 (done 1) ∷ puts 2 300 (done 2) ∷ puts 3 4000 (done 3) ∷ puts 4 16384 (done 4) ∷ puts 5 7 (done 5) ∷ accepts (loses_from 0x11 4095 1 9 900) (refused 33) ∷ keeps 20712 ∷ accepts (0x11 ∷ 0x0F ∷ 0xFF ∷ desiring 900 ++ (0x02 ∷ 0x00 ∷ 1 ∷ 0x00 ∷ 2 ∷ 0x00 ∷ 4 ∷ 0x00 ∷ 4 ∷ 0x00 ∷ 0x00 ∷ [])) (counts 0 3) ∷ keeps 4008 ∷ accepts (wants 0 0) (counts 1 0) ∷ keeps 4007 ∷ accepts (wants 3 900) (counts 1 0) ∷ keeps 7 ∷ takes (taken_of 1 1 20) ∷ takes (taken_of 2 2 300) ∷ takes (taken_of 4 4 16384) ∷ keeps 7 ∷ has_room 893 ∷ [])
    -- a closed end's take lowers it by a waiting entry, and not by a lost one; a refused take doesn't
    ∷ turns (G.open_ledger 12 0 0) (puts 0 100 (done 0) ∷ puts 1 50 (done 1) ∷ puts 2 7 (done 2) ∷ accepts (loses 1 900) (counts 0 1) ∷ accepts (ends 900) ended ∷ keeps 107 ∷ takes (taken_of 0 0 100) ∷ keeps 7 ∷ takes (taken_of 1 1 50) ∷ keeps 7 ∷ takes (taken_of 2 2 7) ∷ keeps 0 ∷ takes (refused 38) ∷ keeps 0 ∷ [])
    -- a Final by which one is freed and one becomes lost; a closed end's refused calls
    ∷ turns (G.open_ledger 12 0 0) (puts 0 1 (done 0) ∷ puts 1 20 (done 1) ∷ puts 2 300 (done 2) ∷ puts 3 16384 (done 3) ∷ accepts (loses_from 0x13 0 1 1 900) (done (record { freed = 1; lost = 1; final = true })) ∷ keeps 16684 ∷ puts 4 5 (refused 9) ∷ accepts (wants 0 5) (refused 9) ∷ keeps 16684 ∷ takes (taken_of 1 1 20) ∷ takes (taken_of 2 2 300) ∷ keeps 16384 ∷ takes (taken_of 3 3 16384) ∷ keeps 0 ∷ [])
    -- the long form, and a range over the rollover
    ∷ turns (G.open_ledger 18 16777215 0) (puts 0 1 (done 16777215) ∷ puts 1 20 (done 0) ∷ puts 2 300 (done 1) ∷ puts 3 4000 (done 2) ∷ accepts (0x21 ∷ 0x03 ∷ 0xFF ∷ 0xFF ∷ desiring 900 ++ (0x01 ∷ 0xFF ∷ 0xFF ∷ 0xFF ∷ 0x00 ∷ 0x00 ∷ 0x00 ∷ 0x00 ∷ 0x00 ∷ 0x00 ∷ [])) (counts 0 2) ∷ keeps 4300 ∷ accepts (0x22 ∷ 0x00 ∷ 0x00 ∷ 0x02 ∷ desiring 900 ++ replicate 2 0) (done (record { freed = 1; lost = 0; final = true })) ∷ keeps 4000 ∷ takes (taken_of 16777215 0 1) ∷ takes (taken_of 0 1 20) ∷ keeps 4000 ∷ takes (taken_of 2 3 4000) ∷ keeps 0 ∷ [])
    -- the most that waits, and all of it freed
    ∷ turns (done (filled 511)) (keeps 8372224 ∷ puts 1000 16384 (done 1000) ∷ keeps 8388608 ∷ accepts (wants 1000 0) (counts 512 0) ∷ keeps 0 ∷ [])
    -- a full master's refused send, where the sum is below the most; other refused calls
    ∷ turns (done (filled 511)) (puts 1000 1 (done 1000) ∷ keeps 8372225 ∷ puts 1001 1 (refused 36) ∷ keeps 8372225 ∷ [])
    ∷ turns (G.open_ledger 12 0 0) (puts 0 16384 (done 0) ∷ puts 4096 5 (refused 10) ∷ accepts (wants 4096 5) (refused 32) ∷ accepts [] (refused 1) ∷ keeps 16384 ∷ [])
    ∷ []

-- the sum in states that no call reaches
abbrev pub summed_anyhow : List Case
summed_anyhow =
    -- a send stops at the most
    turns (done (G.fresh_ledger 12 0 0 with_octets 4294967295)) (puts 0 1 (done 0) ∷ keeps 8388608 ∷ accepts (wants 4095 8388609) (counts 0 0) ∷ answers_room 1 ∷ accepts (loses 0 8388609) (counts 0 1) ∷ keeps 8388607 ∷ [])
    ∷ turns (done (G.fresh_ledger 12 0 0 with_octets 8388607)) (puts 0 16384 (done 0) ∷ keeps 8388608 ∷ [])
    -- a sum above it is lowered from where it is, and one too small stops at 0, on a status and on a closed end's take; room goes by the sum, whatever waits
    ∷ turns (done (filled 1 with_octets 4294967295)) (accepts (wants 0 4294967295) (counts 0 0) ∷ keeps 4294967295 ∷ answers_room 0 ∷ accepts (loses_from 0x13 0 0 0 4294967295) (done (record { freed = 0; lost = 1; final = true })) ∷ keeps 4294950911 ∷ answers_room 16384 ∷ takes (taken_of 0 0 16384) ∷ keeps 4294950911 ∷ answers_room 16384 ∷ [])
    ∷ turns (done (filled 3 with_octets 16383)) (accepts (wants 0 49153) (counts 0 0) ∷ answers_room 32770 ∷ accepts (wants 1 49153) (counts 2 0) ∷ keeps 0 ∷ answers_room 49153 ∷ [])
    ∷ turns (done (closed with_octets 16383 with_entries (filled 2).entries)) (takes (taken_of 0 0 16384) ∷ keeps 0 ∷ takes (taken_of 1 1 16384) ∷ keeps 0 ∷ [])
    -- the place of the oldest waiting entry makes no difference to it
    ∷ turns (done (filled 2 with_oldest 2)) (accepts (wants 1 0) (counts 2 0) ∷ keeps 0 ∷ [])
    ∷ []

-- a master holds the two sizes in their order; the stores of runs, of records and of entries; Final where 162 runs are listed, and 163
abbrev pub stores : List Case
stores =
    status_sizes (G.open_ledger 12 0 121) (0x10 ∷ 0x00 ∷ 0x78 ∷ size_octets ++ replicate 3 0) 65536 4096
    ∷ secondary (done (listing 255)) (arrives 1256 0 (done 1) ∷ []) 1001
    ∷ secondary (done (listing 256)) (arrives 1256 0 (refused 14) ∷ []) 1000
    ∷ secondary (done (recording 511)) (arrives 1000 0 (done 0) ∷ []) 1001
    ∷ secondary (done (recording 512)) (arrives 1000 0 (refused 15) ∷ []) 1000
    ∷ master (done (filled 511)) 1000 (done 1000)
    ∷ master (done (filled 512)) 1000 (refused 36)
    ∷ secondary (done (listing 162)) (reports 0 0 true (status_of (record { long = false; final = true; highest = 0; desired = 0; minimum = 0; ranges = runs 162 })) ∷ []) 1000
    ∷ secondary (done (listing 163)) (reports 0 0 true (refuse 22) ∷ []) 1000
    ∷ []

-- the orders of reading and writing: where two adjacent refusals apply, the first is given
abbrev pub frame_orders : List Case
frame_orders =
    -- read: 1 before 2, 3 before 4, 4 before 5, 5 before 6
    octets_read (0x40 ∷ replicate 7 0) (refuse 1)
    ∷ octets_read (0x10 ∷ 0xFF ∷ 0xFF ∷ replicate 3 0) (refuse 3)
    ∷ octets_read (0x11 ∷ 0x80 ∷ replicate 12 0) (refuse 4)
    ∷ octets_read (0x11 ∷ replicate 10 0 ++ (163 ∷ 0 ∷ 0 ∷ [])) (refuse 5)
    -- write: 4 before 5, 5 before 10, 10 before 20, 20
    ∷ status_frame (telling false 32768 0 0 (replicate 163 (0 to 0))) (refused 4)
    ∷ status_frame (telling false 0 0 0 (replicate 163 (65536 to 0))) (refused 5)
    ∷ status_frame (telling true 0 0 0 (replicate 162 (16777216 to 0))) (refused 10)
    ∷ status_frame (telling true 0 0 0 (replicate 162 (0 to 0))) (refused 20)
    ∷ []

-- those of both opens and of the secondary
abbrev pub secondary_orders : List Case
secondary_orders =
    -- open: 7 before 10, 10
    not_opened 13 65536 0 7
    ∷ not_opened 12 65536 0 10
    -- arrival: 9 before 10, 10 before 18 and 11 (no number is both), 18 and 11 before 12, 12 before 13, 13 before 14, 14 before 15
    ∷ secondary (done shut) (arrives 65536 0 (refused 9) ∷ expires 65536 (refused 9) ∷ confirms 65536 (refused 9) ∷ []) 1000
    ∷ secondary (K.open_keeper 12 0 0) (arrives 98304 0 (refused 10) ∷ arrives 32768 4096 (refused 10) ∷ arrives 105536 0 (refused 10) ∷ arrives 40000 4096 (refused 10) ∷ []) 0
    ∷ secondary (done (K.fresh_keeper 12 1000 1 with_records (K.new_record 33768 0 ∷ []))) (arrives 33768 0 (refused 18) ∷ []) 1000
    ∷ secondary (K.open_keeper 12 0 0) (arrives 0 0 (done 0) ∷ arrives 0 0 (refused 11) ∷ []) 1
    ∷ secondary (done (K.fresh_keeper 12 1000 1 with_runs ((33768 to 33768) ∷ []) with_records (K.new_record 1001 0 ∷ []))) (arrives 1001 0 (refused 12) ∷ []) 1000
    ∷ secondary (done (listing 256)) (arrives 32768 0 (refused 13) ∷ []) 1000
    ∷ secondary (done (listing 256 with_records records 512)) (arrives 1256 0 (refused 14) ∷ []) 1000
    -- expiry: 9 before 17, 14, 19 and what would be accepted; 10 before 19, 17 and 14; 19 before 17 (the mark is base, and nothing from there on is
    -- accepted) and before 14; 17 before 14
    ∷ secondary (done (listing 256 with_closed true with_records (K.new_record 1002 0 ∷ []))) (expires 999 (refused 9) ∷ expires 1000 (refused 9) ∷ expires 1002 (refused 9) ∷ expires 1003 (refused 9) ∷ []) 1000
    ∷ secondary (done (shut with_records (K.new_record 1002 0 ∷ []))) (expires 1002 (refused 9) ∷ []) 1000
    ∷ secondary (done (listing 257)) (expires 65536 (refused 10) ∷ expires 66536 (refused 10) ∷ expires 1000 (refused 19) ∷ expires 1001 (refused 19) ∷ expires 999 (refused 17) ∷ []) 1000
    ∷ secondary (done (listing 256 with_records (K.new_record 1002 0 ∷ []))) (expires 1003 (refused 19) ∷ expires 1000 (refused 17) ∷ expires 1002 (refused 14) ∷ expires 1001 (refused 14) ∷ []) 1000
    ∷ secondary (done (listing 257 with_records (K.new_record 1002 0 ∷ []))) (expires 66536 (refused 10) ∷ expires 66537 (refused 10) ∷ expires 66535 (refused 10) ∷ expires 1000 (refused 17) ∷ expires 1001 (refused 14) ∷ []) 1000
    -- confirm: 10 before 16, 16
    ∷ secondary (K.open_keeper 12 0 0) (confirms 65536 (refused 10) ∷ confirms 5 (refused 16) ∷ []) 0
    -- status: 9 before 22, 22 before 20, 20
    ∷ secondary (done (listing 163 with_closed true)) (reports 0 0 true (refuse 9) ∷ []) 1000
    ∷ secondary (done (listing_long 163)) (reports 0 0 true (refuse 22) ∷ reports 0 0 false (refuse 20) ∷ []) 1000
    ∷ []

-- those of the master
abbrev pub master_orders : List Case
master_orders =
    -- send: 9 before 10 and 39, 10 before 39 and (with an entry waiting) 35, 39 before 35 and 36, 35 before 36
    turns (done closed) (puts 4096 1 (refused 9) ∷ puts 1 0 (refused 9) ∷ [])
    ∷ turns (G.open_ledger 12 0 0) (puts 8191 0 (refused 10) ∷ puts 4095 0 (refused 39) ∷ puts 4095 16385 (refused 39) ∷ puts 5 1 (done 0) ∷ puts 4101 1 (refused 10) ∷ [])
    ∷ turns (done (filled 512)) (puts 1000 0 (refused 39) ∷ [])
    ∷ master (done (filled 512)) 999 (refused 35)
    -- accept: 9 before 1, 6 before 31, 31 before 32, 32 before 33, 33 before 34, 34
    ∷ not_accepted (done closed) [] 9
    ∷ not_accepted (G.open_ledger 12 0 0) (0x21 ∷ replicate 11 0 ++ (1 ∷ 0 ∷ [])) 6
    ∷ not_accepted (G.open_ledger 12 0 0) (0x20 ∷ 0x00 ∷ 0x10 ∷ replicate 11 0) 31
    ∷ not_accepted (G.open_ledger 12 0 0) (0x11 ∷ 0x10 ∷ 0x00 ∷ one_range 7) 32
    ∷ not_accepted (G.open_ledger 12 0 0) (0x11 ∷ 0x00 ∷ 0x09 ∷ one_range 7) 33
    ∷ not_accepted (G.open_ledger 12 0 0) (0x10 ∷ 0x00 ∷ 0x09 ∷ replicate 11 0) 34
    -- take: 38
    ∷ not_taken (done (filled 512)) 38
    ∷ []

-- all of them, part by part
abbrev pub cases : List (List Case)
cases = sheet ∷ written ∷ laid ∷ are_read ∷ circles ∷ marked ∷ rested ∷ bytes ∷ summed ∷ summed_anyhow ∷ stores ∷ frame_orders ∷ secondary_orders ∷ master_orders ∷ []

-- ---- each case holds

sheet_hold : AllHold sheet
sheet_hold = (refl, (refl, (refl, (refl, (refl, (refl, (refl, ((refl, refl), ((refl, refl), ((refl, refl), ((refl, refl), ((refl, (refl, refl)), ((refl, (refl, (refl, refl))), ((refl, (refl, (refl, (refl, (refl, refl))))), (refl, (refl, tt))))))))))))))))

written_hold : AllHold written
written_hold = (refl, (refl, (refl, (refl, (refl, (refl, (refl, (refl, (refl, tt)))))))))

laid_hold : AllHold laid
laid_hold = (refl, (refl, (refl, (refl, tt))))

are_read_hold : AllHold are_read
are_read_hold = (refl, (refl, (refl, (refl, (refl, (refl, (refl, (refl, (refl, tt)))))))))

circles_hold : AllHold circles
circles_hold = ((refl, refl), ((refl, (refl, (refl, refl))), ((refl, refl), ((refl, (refl, (refl, refl))), ((refl, (refl, (refl, (refl, (refl, (refl, (refl, refl))))))), ((refl, (refl, (refl, (refl, (refl, refl))))), ((refl, (refl, (refl, (refl, tt)))), ((refl, (refl, (refl, (refl, tt)))), ((refl, refl), ((refl, refl), ((refl, refl), ((refl, refl), tt))))))))))))

marked_hold : AllHold marked
marked_hold = ((refl, (refl, (refl, (refl, (refl, (refl, (refl, refl))))))), ((refl, (refl, (refl, (refl, refl)))), ((refl, (refl, (refl, (refl, refl)))), ((refl, (refl, (refl, (refl, (refl, (refl, (refl, (refl, refl)))))))), ((refl, (refl, (refl, (refl, (refl, (refl, (refl, (refl, (refl, (refl, refl)))))))))), ((refl, (refl, (refl, (refl, (refl, (refl, refl)))))), ((refl, (refl, (refl, (refl, (refl, refl))))), ((refl, (refl, (refl, refl))), ((refl, (refl, (refl, (refl, (refl, (refl, (refl, refl))))))), ((refl, (refl, (refl, (refl, (refl, (refl, refl)))))), ((refl, (refl, (refl, (refl, refl)))), ((refl, (refl, (refl, (refl, (refl, refl))))), ((refl, (refl, (refl, refl))), ((refl, (refl, refl)), ((refl, (refl, (refl, refl))), ((refl, (refl, (refl, (refl, (refl, (refl, (refl, (refl, (refl, (refl, (refl, (refl, (refl, refl))))))))))))), ((refl, refl), tt)))))))))))))))))

to_say_hold : AllHold to_say
to_say_hold = ((refl, (refl, (refl, (refl, (refl, (refl, (refl, refl))))))), ((refl, (refl, (refl, (refl, (refl, (refl, (refl, (refl, (refl, (refl, (refl, refl))))))))))), ((refl, (refl, (refl, (refl, (refl, (refl, refl)))))), ((refl, (refl, (refl, (refl, (refl, (refl, (refl, (refl, (refl, (refl, (refl, (refl, (refl, refl))))))))))))), ((refl, (refl, (refl, (refl, (refl, (refl, refl)))))), ((refl, (refl, (refl, (refl, refl)))), ((refl, (refl, (refl, refl))), ((refl, (refl, (refl, (refl, (refl, (refl, (refl, (refl, (refl, refl))))))))), ((refl, (refl, refl)), ((refl, (refl, (refl, (refl, (refl, refl))))), ((refl, refl), ((refl, (refl, refl)), ((refl, refl), ((refl, refl), ((refl, refl), ((refl, refl), ((refl, refl), ((refl, refl), ((refl, refl), ((refl, (refl, refl)), ((refl, (refl, refl)), ((refl, refl), ((refl, refl), ((refl, refl), ((refl, refl), ((refl, (refl, (refl, (refl, (refl, refl))))), tt))))))))))))))))))))))))))

rested_hold : AllHold rested
rested_hold = ((refl, (refl, (refl, (refl, (refl, (refl, tt)))))), ((refl, (refl, (refl, (refl, (refl, tt))))), ((refl, (refl, (refl, (refl, tt)))), ((refl, (refl, (refl, (refl, (refl, (refl, tt)))))), ((refl, (refl, (refl, (refl, (refl, (refl, tt)))))), ((refl, (refl, (refl, (refl, tt)))), ((refl, (refl, (refl, (refl, (refl, (refl, (refl, tt))))))), ((refl, (refl, (refl, (refl, (refl, (refl, (refl, tt))))))), ((refl, (refl, (refl, (refl, (refl, tt))))), ((refl, (refl, (refl, (refl, (refl, (refl, (refl, tt))))))), ((refl, (refl, (refl, (refl, (refl, (refl, (refl, tt))))))), tt)))))))))))

bytes_hold : AllHold bytes
bytes_hold = ((refl, (refl, (refl, (refl, (refl, (refl, (refl, (refl, (refl, (refl, (refl, tt))))))))))), ((refl, (refl, (refl, (refl, (refl, (refl, (refl, (refl, (refl, (refl, tt)))))))))), ((refl, (refl, (refl, (refl, (refl, (refl, (refl, (refl, (refl, (refl, (refl, tt))))))))))), ((refl, (refl, (refl, (refl, (refl, (refl, (refl, (refl, (refl, tt))))))))), ((refl, (refl, (refl, (refl, (refl, (refl, (refl, (refl, (refl, tt))))))))), ((refl, (refl, (refl, (refl, (refl, (refl, (refl, (refl, (refl, (refl, (refl, (refl, tt)))))))))))), ((refl, (refl, (refl, (refl, (refl, (refl, tt)))))), ((refl, (refl, (refl, (refl, (refl, tt))))), ((refl, (refl, (refl, (refl, (refl, tt))))), tt)))))))))

summed_hold : AllHold summed
summed_hold = ((refl, (refl, (refl, (refl, (refl, (refl, (refl, (refl, (refl, (refl, (refl, (refl, (refl, (refl, (refl, (refl, (refl, (refl, (refl, (refl, (refl, (refl, tt)))))))))))))))))))))), ((refl, (refl, (refl, (refl, (refl, (refl, (refl, (refl, (refl, tt))))))))), ((refl, (refl, (refl, (refl, (refl, (refl, (refl, (refl, (refl, (refl, (refl, (refl, (refl, (refl, (refl, (refl, (refl, (refl, (refl, tt))))))))))))))))))), ((refl, (refl, (refl, (refl, (refl, (refl, (refl, (refl, (refl, (refl, (refl, (refl, (refl, (refl, tt)))))))))))))), ((refl, (refl, (refl, (refl, (refl, (refl, (refl, (refl, (refl, (refl, (refl, (refl, (refl, (refl, tt)))))))))))))), ((refl, (refl, (refl, (refl, (refl, (refl, (refl, (refl, (refl, (refl, (refl, (refl, (refl, tt))))))))))))), ((refl, (refl, (refl, (refl, (refl, tt))))), ((refl, (refl, (refl, (refl, tt)))), ((refl, (refl, (refl, (refl, (refl, tt))))), tt)))))))))

summed_anyhow_hold : AllHold summed_anyhow
summed_anyhow_hold = ((refl, (refl, (refl, (refl, (refl, (refl, tt)))))), ((refl, (refl, tt)), ((refl, (refl, (refl, (refl, (refl, (refl, (refl, (refl, (refl, tt))))))))), ((refl, (refl, (refl, (refl, (refl, tt))))), ((refl, (refl, (refl, (refl, tt)))), ((refl, (refl, tt)), tt))))))

stores_hold : AllHold stores
stores_hold = ((refl, refl), ((refl, refl), ((refl, refl), ((refl, refl), ((refl, refl), (refl, (refl, ((refl, refl), ((refl, refl), tt)))))))))

frame_orders_hold : AllHold frame_orders
frame_orders_hold = (refl, (refl, (refl, (refl, (refl, (refl, (refl, (refl, tt))))))))

secondary_orders_hold : AllHold secondary_orders
secondary_orders_hold = ((refl, refl), ((refl, refl), ((refl, (refl, (refl, refl))), ((refl, (refl, (refl, (refl, refl)))), ((refl, refl), ((refl, (refl, refl)), ((refl, refl), ((refl, refl), ((refl, refl), ((refl, (refl, (refl, (refl, refl)))), ((refl, refl), ((refl, (refl, (refl, (refl, (refl, refl))))), ((refl, (refl, (refl, (refl, refl)))), ((refl, (refl, (refl, (refl, (refl, refl))))), ((refl, (refl, refl)), ((refl, refl), ((refl, (refl, refl)), tt)))))))))))))))))

master_orders_hold : AllHold master_orders
master_orders_hold = ((refl, (refl, tt)), ((refl, (refl, (refl, (refl, (refl, tt))))), ((refl, tt), (refl, (refl, (refl, (refl, (refl, (refl, (refl, (refl, tt)))))))))))

-- every case holds
pub all_hold : PartsHold cases
all_hold = (sheet_hold, (written_hold, (laid_hold, (are_read_hold, (circles_hold, (marked_hold, (rested_hold, (bytes_hold, (summed_hold, (summed_anyhow_hold, (stores_hold, (frame_orders_hold, (secondary_orders_hold, (master_orders_hold, tt))))))))))))))
