-- What the master's machine means: every ledger that calls reach from open is as document 01 says, with 35 as request Three of document 02
-- mends it, sizes and room as request Four adds them and the sum that request Five keeps, on packet indexes that never roll over, whatever frames
-- were accepted on the way. Packet i is the i-th accepted send. The statements stand at the end: `LedgersMean`, `SendsMean`, `TakesMean` and
-- `StatusesMean`, proved in proofs/Master/LedgerMeans.antt, and `CallsMean`, `SumsKept` and `RoomWithoutEntries`, proved in
-- proofs/Master/Unlabelled.antt.
-- Assumes nothing.
use Rattle.std.specs.Prelude.{◌≡◌, true, false, not, Bool, List, [], ◌∷◌, ◌++◌, map, ℕ, ◌+◌, ◌*◌, ◌-◌, ◌^◌, ◌≤◌, ◌<◌, length, get_or, if◌then◌else◌}
use Rattle.basics.specs.Basics.{done, ◌or◌}
use Rattle.circle.specs.Circle.{forward}
use Rattle.frame_layout.specs.Frames.{Status, status_of, read_frame}
use Rattle.bearer.specs.Ledger.{waiting, lost, Entry, Ledger, Accepted, Taken, open_ledger, send, accept, take_oldest, room, kept_room, ◌with_entries◌}
use Rattle.bearer.specs.Packets.{number_of, one_before, last_of, packets, Rising, In, in_ranges, Each}

-- A master's end by its accepted calls: the PDCP numbers and the sizes of the sends (packet i is the i-th of them), how many were freed and taken,
-- added up from the answers, whether a status has come, the highest and both sizes of the last one, and whether one had Final.
pub record Books : Type 0 where
  pub sent : List ℕ
  pub sizes : List ℕ
  pub freed : ℕ
  pub taken : ℕ
  pub heard : Bool
  pub highest : ℕ
  pub desired : ℕ
  pub minimum : ℕ
  pub final : Bool

-- "H is the highest last accepted, f - 1 at first", and nothing has happened yet
abbrev pub begun : ℕ → ℕ → Books
begun L f = record {
  sent = [];
  sizes = [];
  freed = 0;
  taken = 0;
  heard = false;
  highest = one_before L f;
  desired = 0;
  minimum = 0;
  final = false;
}

-- books whose parts are put anew; beside begun ones, the one place that says every field
abbrev pub changed : List ℕ → List ℕ → ℕ → ℕ → Bool → ℕ → ℕ → ℕ → Bool → Books
changed sent sizes freed taken heard highest desired minimum final = record {
  sent = sent;
  sizes = sizes;
  freed = freed;
  taken = taken;
  heard = heard;
  highest = highest;
  desired = desired;
  minimum = minimum;
  final = final;
}

-- a PDU more was sent: its PDCP number and its size
abbrev pub sending : Books → ℕ → ℕ → Books
sending b p z =
    changed (b.sent ++ (p ∷ [])) (b.sizes ++ (z ∷ [])) b.freed b.taken b.heard b.highest b.desired b.minimum b.final

-- a status was accepted, which freed so many: "Both sizes replace the former ones. Final closes this end."
abbrev pub accepting : Books → Status → ℕ → Books
accepting b s freed = changed b.sent b.sizes (b.freed + freed) b.taken true s.highest s.desired s.minimum s.final

-- an entry was taken
abbrev pub taking : Books → Books
taking b = changed b.sent b.sizes b.freed (b.taken + 1) b.heard b.highest b.desired b.minimum b.final

-- "the last PDCP number sent starts there too"
abbrev pub last_sent : ℕ → ℕ → Books → ℕ
last_sent L f b = last_of (one_before L f) b.sent

-- A ledger that calls reach from open, with the books of them. A status is any octets. Refused calls leave the ledger (`MasterKeeps` of
-- Refusals.antt), so they are no steps here.
pub data LedgerReached (L first f : ℕ) : Ledger ℕ → Books → Type 0 where
  -- a fresh end
  opened : {l : Ledger ℕ} → open_ledger L first f ≡ done l → LedgerReached L first f l (begun L f)
  -- a packet was sent
  sends : {l : Ledger ℕ} {b : Books} (p z n : ℕ) → LedgerReached L first f l b → (send l p z (length b.sent)).answer ≡ done n
      → LedgerReached L first f (send l p z (length b.sent)).state (sending b p z)
  -- octets were accepted, which are those of a status
  accepts : {l : Ledger ℕ} {b : Books} (octets : List ℕ) (s : Status) (a : Accepted) → LedgerReached L first f l b → read_frame octets ≡ status_of s
      → (accept l octets).answer ≡ done a → LedgerReached L first f (accept l octets).state (accepting b s a.freed)
  -- an entry was taken
  takes : {l : Ledger ℕ} {b : Books} (t : Taken) → LedgerReached L first f l b → (take_oldest l).answer ≡ done t
      → LedgerReached L first f (take_oldest l).state (taking b)

-- an entry's fate is waiting; said here again on purpose, as the machine's own test must not move what is said of it
abbrev pub is_waiting : {A : Type 0} → Entry A → Bool
is_waiting e = elim e.fate [ waiting ↦ true | lost ↦ false ]

-- the entries that wait
abbrev pub waiting_in : {A : Type 0} → List (Entry A) → List (Entry A)
waiting_in [] = []
waiting_in (e ∷ es) = if is_waiting e then e ∷ waiting_in es else waiting_in es

-- the entries that are lost
abbrev pub lost_in : List (Entry ℕ) → List (Entry ℕ)
lost_in [] = []
lost_in (e ∷ es) = if is_waiting e then lost_in es else e ∷ lost_in es

-- the lost entries in front of the oldest that waits; all where none waits
abbrev pub in_front : List (Entry ℕ) → List (Entry ℕ)
in_front [] = []
in_front (e ∷ es) = if is_waiting e then [] else e ∷ in_front es

-- the PDCP number of the oldest of entries; 0 for none
abbrev pub oldest_pdcp : List (Entry ℕ) → ℕ
oldest_pdcp [] = 0
oldest_pdcp (e ∷ es) = e.pdcp

-- forward to the PDCP number of an entry from that of the oldest one that waits
abbrev pub from_oldest : ℕ → Ledger ℕ → Entry ℕ → ℕ
from_oldest L l e = forward (2 ^ L) (oldest_pdcp (waiting_in l.entries)) e.pdcp

-- the sizes of entries, added up
abbrev pub sizes_of : {A : Type 0} → List (Entry A) → ℕ
sizes_of [] = 0
sizes_of (e ∷ es) = e.size + sizes_of es

-- the sizes of packets, added up
abbrev pub octets_of : Books → List ℕ → ℕ
octets_of b [] = 0
octets_of b (i ∷ is) = get_or b.sizes i 0 + octets_of b is

-- "Room is the desired size of the last accepted status less the sizes of all waiting entries, and 0 where that would be negative or no status
-- has come" (request Four, from TS 36.425, 5.4.2.1), by the packets that wait; a difference of numbers that would be negative is 0
abbrev pub room_by : Books → List ℕ → ℕ
room_by b ws = if b.heard then b.desired - octets_of b ws else 0

-- ---- what a ledger means

-- What a ledger means, by its books.
pub record LedgerMeans (L first f : ℕ) (l : Ledger ℕ) (b : Books) : Type 0 where
  -- the bearer's L
  pub same_length : l.bits ≡ L
  -- H, the last PDCP number sent and both sizes of the last status are the books'; the end is closed exactly if an accepted frame had Final
  pub highest_is : l.highest ≡ b.highest
  pub last_is : l.sent ≡ last_sent L f b
  pub desired_is : l.desired ≡ b.desired
  pub minimum_is : l.minimum ≡ b.minimum
  pub closed_is : l.closed ≡ b.final
  -- room is what the books say, whether the end is closed or not
  pub room_is : room l ≡ room_by b (packets (waiting_in l.entries))
  -- "the sum of waiting sizes .., proved equal to that over the entries after any calls" (request Five), so what asking for room answers is room
  pub octets_are : l.octets ≡ sizes_of (waiting_in l.entries)
  pub kept_room_is : kept_room l ≡ room l
  -- "Each accepted send is now waiting, lost, freed or taken": the four counts sum to the accepted sends
  pub sum : length (waiting_in l.entries) + length (lost_in l.entries) + b.freed + b.taken ≡ length b.sent
  -- entries stand in sending order, and each bears its packet's two numbers and its size
  pub in_order : Rising (packets l.entries)
  pub were_sent : Each (λ (e : Entry ℕ). e.label < length b.sent) l.entries
  pub numbered : Each (λ (e : Entry ℕ). e.number ≡ number_of L first e.label) l.entries
  pub pdcps_are : Each (λ (e : Entry ℕ). e.pdcp ≡ get_or b.sent e.label 0) l.entries
  pub sizes_are : Each (λ (e : Entry ℕ). e.size ≡ get_or b.sizes e.label 0) l.entries
  -- each size is within its limits, and so those of what waits, added up, stay far below 2^32
  pub sizes_within : Each (λ (e : Entry ℕ). (1 ≤ e.size) × (e.size ≤ 16384)) l.entries
  pub octets_within : octets_of b (packets (waiting_in l.entries)) ≤ 512 * 16384
  -- "Numbers go out consecutively modulo M": the next one is the next packet's
  pub next_is : l.next ≡ number_of L first (length b.sent)
  -- the ledger knows where the oldest waiting entry stands: behind the lost ones in front of it
  pub oldest_is : l.oldest ≡ length (in_front l.entries)
  -- measured forward from the PDCP number of the oldest waiting entry, those of the waiting entries strictly rise and stay below 2^(L-1); no two are
  -- the same, and none is H
  pub pdcps_rise : Rising (map (from_oldest L l) (waiting_in l.entries))
  pub within_half : Each (λ (e : Entry ℕ). from_oldest L l e < 2 ^ (L - 1)) (waiting_in l.entries)
  pub one_pdcp : (i j : ℕ) → In i (packets (waiting_in l.entries)) → In j (packets (waiting_in l.entries)) → get_or b.sent i 0 ≡ get_or b.sent j 0 → i ≡ j
  pub not_highest : Each (λ (e : Entry ℕ). e.pdcp ≡ l.highest → ⊥) (waiting_in l.entries)
  -- from a waiting packet through the last one sent there are at most 2^(L-1), so an X2-U number is that of one waiting packet at most
  pub span : (i : ℕ) → In i (packets (waiting_in l.entries)) → length b.sent ≤ i + 2 ^ (L - 1)
  pub one_number : (i j : ℕ) → In i (packets (waiting_in l.entries)) → In j (packets (waiting_in l.entries)) → number_of L first i ≡ number_of L first j → i ≡ j
  -- the store's limit
  pub most : length l.entries ≤ 512

-- ---- what an accepted status means

-- Waiting entries turned lost, and their numbers in sending order. Every other entry is as it was, a lost one of the same number too.
pub data TurnedLost : List ℕ → List (Entry ℕ) → List (Entry ℕ) → Type 0 where
  turned_end : TurnedLost [] [] []
  turns : {ns : List ℕ} {es ds : List (Entry ℕ)} (e : Entry ℕ) → is_waiting e ≡ true → TurnedLost ns es ds → TurnedLost (e.number ∷ ns) (e ∷ es) (record { number = e.number; pdcp = e.pdcp; size = e.size; fate = lost; label = e.label } ∷ ds)
  as_it_was : {ns : List ℕ} {es ds : List (Entry ℕ)} (e : Entry ℕ) → TurnedLost ns es ds → TurnedLost ns (e ∷ es) (e ∷ ds)

-- The waiting entries through packet g left; every other entry is as it was.
pub data FreedThrough (g : ℕ) : List (Entry ℕ) → List (Entry ℕ) → Type 0 where
  freed_end : FreedThrough g [] []
  goes : {es ds : List (Entry ℕ)} (e : Entry ℕ) → is_waiting e ≡ true → e.label ≤ g → FreedThrough g es ds → FreedThrough g (e ∷ es) ds
  later : {es ds : List (Entry ℕ)} (e : Entry ℕ) → is_waiting e ≡ true → g < e.label → FreedThrough g es ds → FreedThrough g (e ∷ es) (e ∷ ds)
  is_lost : {es ds : List (Entry ℕ)} (e : Entry ℕ) → is_waiting e ≡ false → FreedThrough g es ds → FreedThrough g (e ∷ es) (e ∷ ds)

-- "A highest equal to H frees none"; else it is the PDCP number of a packet that still waits, and frees through that one
pub data FreedBy (sent : List ℕ) (H h : ℕ) (es ds : List (Entry ℕ)) : Type 0 where
  frees_none : h ≡ H → ds ≡ es → FreedBy sent H h es ds
  frees_through : (g : ℕ) → In g (packets (waiting_in es)) → h ≡ get_or sent g 0 → FreedThrough g es ds → FreedBy sent H h es ds

-- What an accepted status means: the octets are those of a frame, by which entries become lost and are freed, and a is the answer.
pub record StatusMeans (L : ℕ) (sent : List ℕ) (l : Ledger ℕ) (octets : List ℕ) (a : Accepted) : Type 0 where
  -- what was read
  pub frame : Status
  pub read : read_frame octets ≡ status_of frame
  -- "entries in its ranges become lost": the ranges' numbers, in order, are those of waiting entries, and these turn lost
  pub applied : List (Entry ℕ)
  pub become_lost : TurnedLost (in_ranges L frame.ranges) l.entries applied
  pub lost_count : a.lost ≡ length (in_ranges L frame.ranges)
  -- "then every waiting entry from the oldest through the one whose PDCP number is the frame's highest is freed and leaves": so many
  pub are_freed : FreedBy sent l.highest frame.highest applied (accept l octets).state.entries
  pub freed_count : a.freed + length (accept l octets).state.entries ≡ length l.entries
  -- "The answer is how many were freed, how many became lost, and Final."
  pub final_is : a.final ≡ frame.final

-- ---- what an accepted take means

-- "Take removes the oldest lost entry and answers its two numbers. Once closed it takes the oldest entry, lost or waiting.", and the size "given at
-- send and answered by take" (request Four)
pub data TakenFrom (closed : Bool) (t : Taken) : List (Entry ℕ) → List (Entry ℕ) → Type 0 where
  this_one : (e : Entry ℕ) (es : List (Entry ℕ)) → closed or not (is_waiting e) ≡ true → t ≡ record { number = e.number; pdcp = e.pdcp; size = e.size } → TakenFrom closed t (e ∷ es) es
  passes_over : {es ds : List (Entry ℕ)} (e : Entry ℕ) → closed ≡ false → is_waiting e ≡ true → TakenFrom closed t es ds → TakenFrom closed t (e ∷ es) (e ∷ ds)

-- ---- ledgers without labels, as the engine holds them

-- A ledger that any calls reach from open, refused ones included.
pub data CallsReach (L first f : ℕ) : Ledger Unit → Type 0 where
  is_opened : {l : Ledger Unit} → open_ledger L first f ≡ done l → CallsReach L first f l
  after_send : {l : Ledger Unit} (p z : ℕ) → CallsReach L first f l → CallsReach L first f (send l p z tt).state
  after_accept : {l : Ledger Unit} (octets : List ℕ) → CallsReach L first f l → CallsReach L first f (accept l octets).state
  after_take : {l : Ledger Unit} → CallsReach L first f l → CallsReach L first f (take_oldest l).state

-- an entry without its label
abbrev pub unlabelled : {A : Type 0} → Entry A → Entry Unit
unlabelled e = record { number = e.number; pdcp = e.pdcp; size = e.size; fate = e.fate; label = tt }

-- Such a ledger is one that accepted calls reach, without its labels: so what is said of that one's figures holds of it.
pub record Unlabelled (L first f : ℕ) (l : Ledger Unit) : Type 0 where
  pub labelled : Ledger ℕ
  pub books : Books
  pub reached : LedgerReached L first f labelled books
  pub same : l ≡ labelled with_entries map unlabelled labelled.entries

-- ---- the statements

-- every ledger that calls reach, by its accepted calls
abbrev pub LedgersMean : Type 0
LedgersMean = (L first f : ℕ) (l : Ledger ℕ) (b : Books) → LedgerReached L first f l b → LedgerMeans L first f l b

-- "Send .. adds a waiting entry and answers its X2-U number": those of the next packet
abbrev pub SendsMean : Type 0
SendsMean =
    (L first f : ℕ) (l : Ledger ℕ) (b : Books) → LedgerReached L first f l b → (p z n : ℕ) → (send l p z (length b.sent)).answer ≡ done n
    → (n ≡ number_of L first (length b.sent))
    × ((send l p z (length b.sent)).state.entries ≡ l.entries ++ (record { number = n; pdcp = p; size = z; fate = waiting; label = length b.sent } ∷ []))

-- every take, whatever the ledger
abbrev pub TakesMean : Type 0
TakesMean = (l : Ledger ℕ) (t : Taken) → (take_oldest l).answer ≡ done t → TakenFrom l.closed t l.entries (take_oldest l).state.entries

-- every status that such a ledger accepts
abbrev pub StatusesMean : Type 0
StatusesMean =
    (L first f : ℕ) (l : Ledger ℕ) (b : Books) → LedgerReached L first f l b → (octets : List ℕ) (a : Accepted) → (accept l octets).answer ≡ done a
    → StatusMeans L b.sent l octets a

-- every ledger without labels that calls reach
abbrev pub CallsMean : Type 0
CallsMean = (L first f : ℕ) (l : Ledger Unit) → CallsReach L first f l → Unlabelled L first f l

-- "Keep the sum of waiting sizes in the ledger, proved equal to that over the entries after any calls" (request Five): there asking for room answers room
abbrev pub SumsKept : Type 0
SumsKept = (L first f : ℕ) (l : Ledger Unit) → CallsReach L first f l → (l.octets ≡ sizes_of (waiting_in l.entries)) × (kept_room l ≡ room l)

-- "Room without adding up": it looks at no entry, in any state
abbrev pub RoomWithoutEntries : Type 1
RoomWithoutEntries = (A B : Type 0) (l : Ledger A) (es : List (Entry B)) → kept_room (l with_entries es) ≡ kept_room l
