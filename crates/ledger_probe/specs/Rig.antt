-- What the rig's loops add up to, over the master's machine (the crate bearer, Ledger.antt): calls one after another, each on
-- the ledger that the one before left.
-- Assumes nothing.
use Rattle.std.specs.Prelude.{ℕ, zero, suc, ◌+◌, ◌-◌, ◌%◌, ◌^◌, min, List, nat_eq, if◌then◌else◌}
use Rattle.basics.specs.Basics.{Outcome, done, refused}
use Rattle.bearer.specs.Bearer.{After, answering, most_entries}
use Rattle.bearer.specs.Ledger.{Ledger, Accepted, changed, open_ledger, send, accept, kept_room}
use Rattle.ledger.specs.View.{opens}

-- ---- turns

-- what a loop calls on a ledger in a turn of this number
abbrev pub Turn : Type 0 → Type 0
Turn A = ℕ → Ledger Unit → After (Ledger Unit) A

-- what an answer is worth: a refusal n is 2^32 - n
abbrev pub worth : {A : Type 0} → (A → ℕ) → Outcome A → ℕ
worth value (done a) = value a
worth value (refused n) = 2 ^ 32 - n

-- the ledger that n turns from turn i on leave
abbrev pub left : {A : Type 0} → Turn A → Ledger Unit → ℕ → ℕ → Ledger Unit
left turn l i zero = l
left turn l i (suc n) = left turn (turn i l).state (i + 1) n

-- what the answers of n turns from turn i on are worth together
abbrev pub total : {A : Type 0} → (A → ℕ) → Turn A → Ledger Unit → ℕ → ℕ → ℕ
total value turn l i zero = 0
total value turn l i (suc n) = worth value (turn i l).answer + total value turn (turn i l).state (i + 1) n

-- ---- what is timed

-- a ledger opened at number 0 and PDCP number 0
abbrev pub opened : ℕ → Ledger Unit
opened L = (opens (open_ledger L 0 0)).state

-- turn i sends 1,500 octets with PDCP number i
abbrev pub send_next : Turn ℕ
send_next i l = send l i 1500 tt

-- a ledger with so many packets sent, 512 at most
abbrev pub filled : ℕ → ℕ → Ledger Unit
filled L entries = left send_next (opened L) 0 (min entries most_entries)

-- a round of so many turns sends the PDCP numbers from p on, the first of them to the same ledger as in every round
abbrev pub send_round : ℕ → ℕ → Ledger Unit → Turn ℕ
send_round p round start i l = send_next (p + i % round) (if nat_eq (i % round) 0 then start else l)

-- a number that is answered is worth itself
abbrev pub number : ℕ → ℕ
number n = n

-- so many packets sent in such rounds
abbrev pub rounds : ℕ → ℕ → Ledger Unit → ℕ → ℕ
rounds p round start turns = total number (send_round p round start) start 0 turns % 2 ^ 32

-- so many packets sent, each to a ledger that is not full
abbrev pub sends : ℕ → ℕ → ℕ
sends L turns = rounds 0 most_entries (opened L) turns

-- each turn accepts the same octets
abbrev pub accept_again : List ℕ → Turn Accepted
accept_again octets i l = accept l octets

-- counts are worth those freed and those lost
abbrev pub counts : Accepted → ℕ
counts a = a.freed + a.lost

-- the same octets accepted so many times by a filled ledger, with its next number at the end
abbrev pub accepts : ℕ → ℕ → ℕ → List ℕ → ℕ
accepts L entries turns octets =
    (total counts (accept_again octets) (filled L entries) 0 turns + (left (accept_again octets) (filled L entries) 0 turns).next) % 2 ^ 32

-- so many packets sent behind the entries that octets leave to a filled ledger, 16 a round
abbrev pub sends_behind : ℕ → ℕ → ℕ → List ℕ → ℕ
sends_behind L entries turns octets = rounds (min entries most_entries) 16 (accept (filled L entries) octets).state turns

-- a ledger with another desired size
abbrev pub desiring : Ledger Unit → ℕ → Ledger Unit
desiring l d = changed l l.next l.highest l.sent l.closed d l.minimum l.octets l.oldest l.entries

-- each turn asks for room, and leaves a desired size that is greater by 1, or by 2 after an odd answer
abbrev pub ask_room : Turn ℕ
ask_room i l = answering (kept_room l) (desiring l ((l.desired + (1 + kept_room l % 2)) % 2 ^ 32))

-- so many times asked for room, first of what octets leave to a filled ledger
abbrev pub rooms : ℕ → ℕ → ℕ → List ℕ → ℕ
rooms L entries turns octets = total number ask_room (accept (filled L entries) octets).state 0 turns % 2 ^ 32
