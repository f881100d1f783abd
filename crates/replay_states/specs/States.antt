-- The fields of an end as it stands (the table of calls). A text is a list of the octets of its characters.
-- Assumes nothing.
use Rattle.std.specs.Prelude.{Bool, List, [], ◌∷◌, ◌++◌, map, ℕ, take, if◌then◌else◌}
use Prim.Native.Char.{code}
use Rattle.basics.specs.Basics.{bit, is_set}
use Rattle.bearer.specs.Bearer.{most_runs, most_records}
use Rattle.bearer.specs.Keeper.{Keeper, Record}
use Rattle.bearer.specs.Ledger as master
use Rattle.frame_layout.specs.Frames.{ranges_of}
use Rattle.keeper_state.specs.declared.Held.{Held}
use Rattle.keeper_state.specs.State.{state_of, records_of}
use Rattle.lister_text.specs.Texts.{ascii, decimal, joined, ranges_text}
use Rattle.replay_states.specs.declared.Record as C

-- parts a packet's numbers, its kind and its size
abbrev pub colon : ℕ
colon = code ":"

-- a packet as number:pdcp:kind
abbrev pub packet_text : ℕ → ℕ → ℕ → List ℕ
packet_text number pdcp kind = decimal number ++ (colon ∷ (decimal pdcp ++ (colon ∷ kind ∷ [])))

-- confirmed is 1, not confirmed 0
abbrev pub record_kind : Bool → ℕ
record_kind confirmed = if confirmed then code "1" else code "0"

-- a record as number:pdcp:confirmed
abbrev pub record_text : Record → List ℕ
record_text r = packet_text r.number r.pdcp (record_kind r.confirmed)

-- a record as the code lists it
abbrev pub held_text : C.Record → List ℕ
held_text r = packet_text r.number r.pdcp (record_kind (is_set r.mark))

-- waiting is w, lost l
abbrev pub fate_kind : master.Fate → ℕ
fate_kind master.waiting = code "w"
fate_kind master.lost = code "l"

-- an entry as number:pdcp:w:size or number:pdcp:l:size
abbrev pub entry_text : master.Entry Unit → List ℕ
entry_text e = packet_text e.number e.pdcp (fate_kind e.fate) ++ (colon ∷ decimal e.size)

-- what is listed of the secondary: no more runs and records than its arrays have. What is held and listed of arrays is listed
-- whole (proofs/Elements.antt)
abbrev pub keeper_listed : Held → Keeper
keeper_listed h = state_of h.words (ranges_of (take most_runs h.starts.now) h.ends.now) (records_of (take most_records h.numbers.now) h.pdcps.now h.marks.now)

-- base, reported highest, closed as 0 or 1, listed runs as start-end, records
abbrev pub keeper_fields : Keeper → List (List ℕ)
keeper_fields k =
    ascii "keeper"
    ∷ decimal k.base
    ∷ decimal k.reported
    ∷ decimal (bit k.closed)
    ∷ ranges_text k.runs
    ∷ joined (map record_text k.records)
    ∷ []

-- next number, H, last sent, closed, desired, minimum, sum of waiting sizes, entries
abbrev pub ledger_fields : master.Ledger Unit → List (List ℕ)
ledger_fields l =
    ascii "ledger"
    ∷ decimal l.next
    ∷ decimal l.highest
    ∷ decimal l.sent
    ∷ decimal (bit l.closed)
    ∷ decimal l.desired
    ∷ decimal l.minimum
    ∷ decimal l.octets
    ∷ joined (map entry_text l.entries)
    ∷ []
