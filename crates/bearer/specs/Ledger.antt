-- The master's machine: what each call answers and leaves, in every state (document 01, "The master's rule" and "Refusal
-- numbers", with rule 35 as request Three of document 02 mends it, sizes and room as request Four adds them, and the sum that request Five
-- keeps). Every definition is total. An entry bears a label of any type, which no definition looks at: the engine's entries bear none (Unit),
-- and demand 3 writes the packet's own name on it.
-- Assumes nothing.
use Rattle.std.specs.Prelude.{Bool, true, false, not, List, [], ◌∷◌, ◌++◌, ℕ, suc, ◌+◌, ◌-◌, ◌/◌, ◌%◌, min, ltb, leb, eqb, length, take, drop, if◌then◌else◌}
use Rattle.std.proofs.Math.Option.{Option, none, some}
use Rattle.basics.specs.Basics.{◌and◌, ◌or◌, alike, Outcome, done, refused}
use Rattle.circle.specs.Circle.{forward}
use Rattle.circle.specs.Lengths.{is_length, is_long, modulus_of, pdcps, pdcp_before}
use Rattle.frame_layout.specs.Frames.{Range, Status, Reading, data_of, status_of, refuse, read_frame}
use Rattle.bearer.specs.Bearer.{most_entries, most_size, most_octets, After, refusing, answering}

-- what became of a packet that the master still holds
pub data Fate : Type 0 where
  waiting : Fate
  lost : Fate

-- a packet that went out: its two numbers, the PDU's size in octets, its fate, and the label
pub record Entry (A : Type 0) : Type 0 where
  pub number : ℕ
  pub pdcp : ℕ
  pub size : ℕ
  pub fate : Fate
  pub label : A

-- the master's end: L, the next X2-U number, the highest last accepted (H), the last PDCP number sent, whether it is closed, both
-- sizes of the last status, the sizes of all waiting entries added up, where the oldest waiting entry stands (behind so many others; behind all
-- where none waits), and the entries in sending order
pub record Ledger (A : Type 0) : Type 0 where
  pub bits : ℕ
  pub next : ℕ
  pub highest : ℕ
  pub sent : ℕ
  pub closed : Bool
  pub desired : ℕ
  pub minimum : ℕ
  pub octets : ℕ
  pub oldest : ℕ
  pub entries : List (Entry A)

-- an end with no entries: the last PDCP number sent is H
abbrev pub fresh : {A : Type 0} → ℕ → ℕ → ℕ → Bool → Ledger A
fresh L next highest closed = record {
  bits = L;
  next = next;
  highest = highest;
  sent = highest;
  closed = closed;
  desired = 0;
  minimum = 0;
  octets = 0;
  oldest = 0;
  entries = [];
}

-- a ledger whose parts that calls change are put anew, under labels of any type; beside `fresh`, the one place that says every field
abbrev pub changed : {A B : Type 0} → Ledger A → ℕ → ℕ → ℕ → Bool → ℕ → ℕ → ℕ → ℕ → List (Entry B) → Ledger B
changed l next highest sent closed desired minimum octets oldest entries = record {
  bits = l.bits;
  next = next;
  highest = highest;
  sent = sent;
  closed = closed;
  desired = desired;
  minimum = minimum;
  octets = octets;
  oldest = oldest;
  entries = entries;
}

-- ... with another next number
infixl 20 ◌with_next◌
abbrev pub ◌with_next◌ : {A : Type 0} → Ledger A → ℕ → Ledger A
◌with_next◌ l next = changed l next l.highest l.sent l.closed l.desired l.minimum l.octets l.oldest l.entries

-- ... with another highest last accepted
infixl 20 ◌with_highest◌
abbrev pub ◌with_highest◌ : {A : Type 0} → Ledger A → ℕ → Ledger A
◌with_highest◌ l highest = changed l l.next highest l.sent l.closed l.desired l.minimum l.octets l.oldest l.entries

-- ... with another last PDCP number sent
infixl 20 ◌with_sent◌
abbrev pub ◌with_sent◌ : {A : Type 0} → Ledger A → ℕ → Ledger A
◌with_sent◌ l sent = changed l l.next l.highest sent l.closed l.desired l.minimum l.octets l.oldest l.entries

-- ... closed or not
infixl 20 ◌with_closed◌
abbrev pub ◌with_closed◌ : {A : Type 0} → Ledger A → Bool → Ledger A
◌with_closed◌ l closed = changed l l.next l.highest l.sent closed l.desired l.minimum l.octets l.oldest l.entries

-- ... with the two sizes of a status
infixl 20 ◌with_sizes_of◌
abbrev pub ◌with_sizes_of◌ : {A : Type 0} → Ledger A → Status → Ledger A
◌with_sizes_of◌ l s = changed l l.next l.highest l.sent l.closed s.desired s.minimum l.octets l.oldest l.entries

-- ... with another sum of the waiting sizes
infixl 20 ◌with_octets◌
abbrev pub ◌with_octets◌ : {A : Type 0} → Ledger A → ℕ → Ledger A
◌with_octets◌ l octets = changed l l.next l.highest l.sent l.closed l.desired l.minimum octets l.oldest l.entries

-- ... with another place of the oldest waiting entry
infixl 20 ◌with_oldest◌
abbrev pub ◌with_oldest◌ : {A : Type 0} → Ledger A → ℕ → Ledger A
◌with_oldest◌ l oldest = changed l l.next l.highest l.sent l.closed l.desired l.minimum l.octets oldest l.entries

-- ... with other entries, whatever their labels
infixl 20 ◌with_entries◌
abbrev pub ◌with_entries◌ : {A B : Type 0} → Ledger A → List (Entry B) → Ledger B
◌with_entries◌ l entries = changed l l.next l.highest l.sent l.closed l.desired l.minimum l.octets l.oldest entries

-- ---- open

-- a fresh end: the first number is next, and both H and the last PDCP number sent are the one before the first PDCP number
abbrev pub fresh_ledger : {A : Type 0} → ℕ → ℕ → ℕ → Ledger A
fresh_ledger L first f = fresh L first (pdcp_before L f) false

-- 7, 10, or a fresh end
abbrev pub open_ledger : {A : Type 0} → ℕ → ℕ → ℕ → Outcome (Ledger A)
open_ledger L first f =
    if not (is_length L) then refused 7 else
    (if not (ltb first (modulus_of L) and ltb f (pdcps L)) then refused 10 else
    done (fresh_ledger L first f))

-- ---- send

-- forward from a PDCP number to another
abbrev pub pdcps_to : {A : Type 0} → Ledger A → ℕ → ℕ → ℕ
pdcps_to l o p = forward (pdcps l.bits) o p

-- seen from o, a PDCP number lies past the last sent
abbrev pub past_last : {A : Type 0} → Ledger A → ℕ → ℕ → Bool
past_last l o p = ltb (pdcps_to l o l.sent) (pdcps_to l o p)

-- and less than half the PDCP numbers past o
abbrev pub is_within_half : {A : Type 0} → Ledger A → ℕ → ℕ → Bool
is_within_half l o p = ltb (pdcps_to l o p) (pdcps l.bits / 2)

-- both, seen from the first of entries; where there are none, any PDCP number
abbrev pub follows : {A : Type 0} → Ledger A → ℕ → List (Entry A) → Bool
follows l p [] = true
follows l p (e ∷ es) = past_last l e.pdcp p and is_within_half l e.pdcp p

-- the PDCP order: a PDCP number differs from H, and follows the oldest waiting entry, if one waits
abbrev pub is_in_order : {A : Type 0} → Ledger A → ℕ → Bool
is_in_order l p = not (eqb p l.highest) and follows l p (drop l.oldest l.entries)

-- a PDU's size is within its limits, 1 to 16,384 octets
abbrev pub is_size : ℕ → Bool
is_size z = leb 1 z and leb z most_size

-- the entry of a send: it waits
abbrev pub new_entry : {A : Type 0} → ℕ → ℕ → ℕ → A → Entry A
new_entry n p z a = record { number = n; pdcp = p; size = z; fate = waiting; label = a }

-- a sum of waiting sizes with one more; it goes no higher than the most that entries can have, which no state that calls reach would pass
abbrev pub raised : ℕ → ℕ → ℕ
raised octets z = min (octets + z) most_octets

-- the state after an accepted send; where none waited the new entry is the oldest that waits, and stands behind all others
abbrev pub sent_state : {A : Type 0} → Ledger A → ℕ → ℕ → A → Ledger A
sent_state l p z a =
    l with_next (l.next + 1) % modulus_of l.bits with_sent p with_octets raised l.octets z with_entries l.entries ++ (new_entry l.next p z a ∷ [])

-- send of a PDU by its PDCP number and its size: 9, 10, 39, 35, 36, or the X2-U number given out
abbrev pub send : {A : Type 0} → Ledger A → ℕ → ℕ → A → After (Ledger A) ℕ
send l p z a =
    if l.closed then refusing 9 l else
    (if not (ltb p (pdcps l.bits)) then refusing 10 l else
    (if not (is_size z) then refusing 39 l else
    (if not (is_in_order l p) then refusing 35 l else
    (if leb most_entries (length l.entries) then refusing 36 l else
    answering l.next (sent_state l p z a)))))

-- ---- where the oldest waiting entry stands, and how much waits

-- whether an entry waits
abbrev pub waits : {A : Type 0} → Entry A → Bool
waits e = elim e.fate [ waiting ↦ true | lost ↦ false ]

-- behind how many others the oldest waiting entry stands; where none waits, how many there are
abbrev pub waiting_at : {A : Type 0} → List (Entry A) → ℕ
waiting_at [] = 0
waiting_at (e ∷ es) = if waits e then 0 else suc (waiting_at es)

-- the sizes of the waiting entries, added up
abbrev pub waiting_sizes : {A : Type 0} → List (Entry A) → ℕ
waiting_sizes [] = 0
waiting_sizes (e ∷ es) = if waits e then e.size + waiting_sizes es else waiting_sizes es

-- a sum of waiting sizes, lowered by how much less waits among others than among entries; not below 0
abbrev pub lowered : {A : Type 0} → ℕ → List (Entry A) → List (Entry A) → ℕ
lowered octets es others = octets - (waiting_sizes es - waiting_sizes others)

-- a ledger with other entries: the oldest waiting one is looked for from a place on, and the sum is lowered by what waits no longer
abbrev pub holding : {A : Type 0} → Ledger A → ℕ → List (Entry A) → Ledger A
holding l place es = l with_oldest place + waiting_at (drop place es) with_octets lowered l.octets l.entries es with_entries es

-- ---- accepting a status

-- entries, and how many of them a pass changed or took out
pub record Passed (A : Type 0) : Type 0 where
  pub entries : List (Entry A)
  pub count : ℕ

-- an entry, lost
abbrev pub as_lost : {A : Type 0} → Entry A → Entry A
as_lost e = record { number = e.number; pdcp = e.pdcp; size = e.size; fate = lost; label = e.label }

-- an entry waits and bears the number
abbrev pub bears : {A : Type 0} → Entry A → ℕ → Bool
bears e n = waits e and eqb e.number n

-- an entry in front of what a pass did behind it: lost and counted, or kept
abbrev pub note_in : {A : Type 0} → Bool → Entry A → Option (Passed A) → Option (Passed A)
note_in hit e none = none
note_in true e (some p) = some (record { entries = as_lost e ∷ p.entries; count = p.count + 1 })
note_in false e (some p) = some (record { entries = e ∷ p.entries; count = p.count })

-- what is left of the ranges when the first number of the first one is found
abbrev pub after_number : ℕ → Range → List Range → List Range
after_number L r rs = if eqb r.start r.end then rs else record { start = (r.start + 1) % modulus_of L; end = r.end } ∷ rs

-- the ranges' numbers, one after another, become lost where they are found among the waiting entries, in sending order;
-- none where a number isn't found so
abbrev pub mark_lost : {A : Type 0} → ℕ → List (Entry A) → List Range → Option (Passed A)
mark_lost L [] [] = some (record { entries = []; count = 0 })
mark_lost L [] (r ∷ rs) = none
mark_lost L (e ∷ es) [] = some (record { entries = e ∷ es; count = 0 })
mark_lost L (e ∷ es) (r ∷ rs) = note_in (bears e r.start) e (mark_lost L es (if bears e r.start then after_number L r rs else (r ∷ rs)))

-- a waiting entry bears the PDCP number
abbrev pub waits_for : {A : Type 0} → ℕ → List (Entry A) → Bool
waits_for h [] = false
waits_for h (e ∷ es) = (waits e and eqb e.pdcp h) or waits_for h es

-- an entry kept in front of what a pass did behind it
abbrev pub kept : {A : Type 0} → Entry A → Passed A → Passed A
kept e p = record { entries = e ∷ p.entries; count = p.count }

-- an entry freed in front of it: counted, and gone
abbrev pub counted : {A : Type 0} → Passed A → Passed A
counted p = record { entries = p.entries; count = p.count + 1 }

-- every waiting entry from the oldest through the one whose PDCP number is h is freed and leaves
abbrev pub free_through : {A : Type 0} → ℕ → List (Entry A) → Passed A
free_through h [] = record { entries = []; count = 0 }
free_through h (e ∷ es) =
    if not (waits e) then kept e (free_through h es) else
    (if eqb e.pdcp h then record { entries = es; count = 1 } else
    counted (free_through h es))

-- a highest equal to H frees none
abbrev pub freed : {A : Type 0} → Ledger A → ℕ → List (Entry A) → Passed A
freed l h es = if eqb h l.highest then record { entries = es; count = 0 } else free_through h es

-- how many were freed, how many became lost, and Final
pub record Accepted : Type 0 where
  pub freed : ℕ
  pub lost : ℕ
  pub final : Bool

-- what a status answers by which so many were freed and so many became lost
abbrev pub counts_of : Status → ℕ → ℕ → Accepted
counts_of s f n = record { freed = f; lost = n; final = s.final }

-- the state after an accepted status; the oldest waiting entry is looked for from where it stood, since in a reached state all in front of that is
-- lost and stays
abbrev pub accepted_state : {A : Type 0} → Ledger A → Status → List (Entry A) → Ledger A
accepted_state l s es = holding (l with_highest s.highest with_closed s.final with_sizes_of s) l.oldest es

-- the ranges are applied, or were 33: then 34, or what is freed
abbrev pub accept_marked : {A : Type 0} → Ledger A → Status → Option (Passed A) → After (Ledger A) Accepted
accept_marked l s none = refusing 33 l
accept_marked l s (some m) =
    if not (eqb s.highest l.highest or waits_for s.highest m.entries) then refusing 34 l else
    answering
    (counts_of s (freed l s.highest m.entries).count m.count)
    (accepted_state l s (freed l s.highest m.entries).entries)

-- what a status' ranges make of the entries
abbrev pub marking : {A : Type 0} → Ledger A → Status → Option (Passed A)
marking l s = mark_lost l.bits l.entries s.ranges

-- a status of either form: 31, 32, and then its ranges and its highest
abbrev pub accept_status : {A : Type 0} → Ledger A → Status → After (Ledger A) Accepted
accept_status l s =
    if not (alike s.long (is_long l.bits)) then refusing 31 l else
    (if leb (pdcps l.bits) s.highest then refusing 32 l else
    accept_marked l s (marking l s))

-- what was read: its refusal, 31 for a data frame, or a status
abbrev pub accept_reading : {A : Type 0} → Ledger A → Reading → After (Ledger A) Accepted
accept_reading l (data_of long n) = refusing 31 l
accept_reading l (status_of s) = accept_status l s
accept_reading l (refuse n) = refusing n l

-- accepting any octets: 9, 1 to 6, 31, 32, 33, 34, or the counts
abbrev pub accept : {A : Type 0} → Ledger A → List ℕ → After (Ledger A) Accepted
accept l octets = if l.closed then refusing 9 l else accept_reading l (read_frame octets)

-- ---- take

-- where the oldest lost entry stands; once closed the oldest of all; the length for none
abbrev pub take_at : {A : Type 0} → Bool → List (Entry A) → ℕ
take_at closed [] = 0
take_at closed (e ∷ es) = if closed or not (waits e) then 0 else suc (take_at closed es)

-- the two numbers and the size of what was taken
pub record Taken : Type 0 where
  pub number : ℕ
  pub pdcp : ℕ
  pub size : ℕ

-- those of an entry
abbrev pub taken_of : {A : Type 0} → Entry A → Taken
taken_of e = record { number = e.number; pdcp = e.pdcp; size = e.size }

-- a place, when an entry at another has left: one less if that stood in front of it; if it stood there itself, the next one stands there now
abbrev pub place_without : ℕ → ℕ → ℕ
place_without at place = if ltb at place then place - 1 else place

-- the entries from a place on: 38 for none, or the first of them, and the state without it
abbrev pub take_from : {A : Type 0} → Ledger A → List (Entry A) → List (Entry A) → After (Ledger A) Taken
take_from l front [] = refusing 38 l
take_from l front (e ∷ es) = answering (taken_of e) (holding l (place_without (length front) l.oldest) (front ++ es))

-- take: 38, or the two numbers and the size
abbrev pub take_oldest : {A : Type 0} → Ledger A → After (Ledger A) Taken
take_oldest l = take_from l (take (take_at l.closed l.entries) l.entries) (drop (take_at l.closed l.entries) l.entries)

-- ---- room

-- room as request Four has it, of every state, a closed one too: the desired size of the last accepted status less the sizes of all waiting
-- entries. A difference that would be negative is 0, and so is the desired size before any status
abbrev pub room : {A : Type 0} → Ledger A → ℕ
room l = l.desired - waiting_sizes l.entries

-- what asking for room answers: the desired size less the sum that is kept, which is room in every state that calls reach
abbrev pub kept_room : {A : Type 0} → Ledger A → ℕ
kept_room l = l.desired - l.octets
