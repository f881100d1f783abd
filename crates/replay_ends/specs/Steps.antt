-- What a call leaves of one end, and the line that answers it (the table of calls), in the words of its machine.
-- Assumes nothing.
use Rattle.std.specs.Prelude.{List, ℕ, min, take, replicate}
use Rattle.basics.specs.Basics.{Outcome, done, refused}
use Rattle.bearer.specs.Bearer.{After}
use Rattle.bearer.specs.Keeper as secondary
use Rattle.bearer.specs.Ledger as master
use Rattle.replay_calls.specs.Calls.{most_room}
use Rattle.replay_calls.specs.declared.KeeperCall as K
use Rattle.replay_calls.specs.declared.LedgerCall as L
use Rattle.replay_answers.specs.declared.Answer.{Answer}
use Rattle.replay_answers.specs.declared.Answer as A
use Rattle.replay_states.specs.Lines.{line_with}
use Rattle.replay_states.specs.States.{keeper_fields, ledger_fields}
use Rattle.replay_answers.specs.Answers.{answer_fields, refused_fields, frame_fields}

-- what a call leaves: a state, and the line that answers it
pub record Step (S : Type 0) : Type 0 where
  pub state : S
  pub line : List ℕ

-- ---- answers

-- the fields of a machine's answer
abbrev pub fields_by : {A : Type 0} → (A → Answer) → Outcome A → List (List ℕ)
fields_by f (done a) = answer_fields (f a)
fields_by f (refused n) = refused_fields n

-- a confirm that is done says no number
abbrev pub ok_answer : {A : Type 0} → A → Answer
ok_answer a = A.TheVariants.Ok

-- the three counts of an accept
abbrev pub freed_answer : master.Accepted → Answer
freed_answer a = A.TheVariants.Freed a.freed a.lost a.final

-- both numbers of a packet, and its size
abbrev pub taken_answer : master.Taken → Answer
taken_answer t = A.TheVariants.Taken t.number t.pdcp t.size

-- ---- steps

-- a state, and the line of these fields
abbrev pub shown : {S : Type 0} → S → List (List ℕ) → Step S
shown s fields = record { state = s; line = line_with fields }

-- a state, and the line of an answer
abbrev pub answered : {S : Type 0} → S → Answer → Step S
answered s a = shown s (answer_fields a)

-- what a machine leaves, and the line of its answer
abbrev pub following : {S A : Type 0} → (A → Answer) → After S A → Step S
following f a = shown a.state (fields_by f a.answer)

-- the line of a status: its frame's octets, out of the buffer
abbrev pub status_line : Outcome ℕ → List ℕ → List ℕ
status_line (done n) buffer = line_with (frame_fields (take n buffer))
status_line (refused n) buffer = line_with (refused_fields n)

-- what a status leaves, and its line
abbrev pub reporting : secondary.Reported → Step secondary.Keeper
reporting r = record { state = r.state; line = status_line r.answer r.buffer }

-- ---- calls

-- each call on the secondary by its machine; a status is written into an empty buffer of so much room
abbrev pub play_keeper : secondary.Keeper → K.KeeperCall → Step secondary.Keeper
play_keeper k (K.TheVariants.Arrive number pdcp) = following A.TheVariants.Lost (secondary.arrive k number pdcp)
play_keeper k (K.TheVariants.Expire mark) = following A.TheVariants.Lost (secondary.expire k mark)
play_keeper k (K.TheVariants.Confirm number) = following ok_answer (secondary.confirm k number)
play_keeper k (K.TheVariants.Status s) = reporting (secondary.status k s.desired s.minimum s.last (replicate (min s.room most_room) 0))
play_keeper k K.TheVariants.Show = shown k (keeper_fields k)

-- each call on the master by its machine; an accept takes so many octets at the front of a frame's buffer
abbrev pub play_ledger : master.Ledger Unit → L.LedgerCall → List ℕ → Step (master.Ledger Unit)
play_ledger l (L.TheVariants.Send pdcp size) frame = following A.TheVariants.Sent (master.send l pdcp size tt)
play_ledger l (L.TheVariants.Accept count) frame = following freed_answer (master.accept l (take count frame))
play_ledger l L.TheVariants.Take frame = following taken_answer (master.take_oldest l)
play_ledger l L.TheVariants.Room frame = answered l (A.TheVariants.Room (master.kept_room l))
play_ledger l L.TheVariants.Show frame = shown l (ledger_fields l)
