-- What a call leaves of both ends of one bearer, and of an output that its line is laid in.
-- Assumes nothing.
use Rattle.std.specs.Prelude.{◌≡◌, Bool, true, false, not, List, ℕ, ◌+◌, ◌≤◌, leb, length, if◌then◌else◌, Option, Some, None}
use Rattle.std.proofs.lemmas.List.Edits.{sets}
use Rattle.basics.specs.Basics.{◌and◌, Outcome, done, refused}
use Rattle.bearer.specs.Keeper as secondary
use Rattle.bearer.specs.Ledger as master
use Rattle.replay_calls.specs.declared.Call.{Call}
use Rattle.replay_calls.specs.declared.Call.TheVariants.{Open, Keeper, Ledger}
use Rattle.replay_answers.specs.declared.Answer as A
use Rattle.lister_text.specs.declared.Output.{Output}
use Rattle.replay_answers.specs.Answers.{refused_fields}
use Rattle.replay_states.specs.Lines.{most_text, Said}
use Rattle.replay_ends.specs.Steps.{Step, shown, answered, play_keeper, play_ledger}

-- both ends of the bearer, and whether an open of them was accepted
pub record Ends : Type 0 where
  pub opened : Bool
  pub keeper : secondary.Keeper
  pub ledger : master.Ledger Unit

-- ends by their parts
abbrev pub ends_of : Bool → secondary.Keeper → master.Ledger Unit → Ends
ends_of opened k l = record { opened = opened; keeper = k; ledger = l }

-- ends whose secondary is another
abbrev pub ends_with_keeper : Ends → secondary.Keeper → Ends
ends_with_keeper e k = ends_of e.opened k e.ledger

-- ends whose master is another
abbrev pub ends_with_ledger : Ends → master.Ledger Unit → Ends
ends_with_ledger e l = ends_of e.opened e.keeper l

-- ---- calls

-- what a call leaves of one end is put in its place
abbrev pub in_place : {S : Type 0} → (S → Ends) → Step S → Step Ends
in_place put s = record { state = put s.state; line = s.line }

-- both ends opened afresh, in place of former ones; a refused open leaves what was there
abbrev pub opening : Ends → Outcome secondary.Keeper → Outcome (master.Ledger Unit) → Step Ends
opening e (done k) (done l) = answered (ends_of true k l) A.TheVariants.Ok
opening e (done k) (refused n) = shown e (refused_fields n)
opening e (refused n) l = shown e (refused_fields n)

-- each call by its end's machine
abbrev pub play_on : Ends → Call → List ℕ → Step Ends
play_on e (Open o) frame = opening e (secondary.open_keeper o.bits o.first o.pdcp) (master.open_ledger o.bits o.first o.pdcp)
play_on e (Keeper call) frame = in_place (ends_with_keeper e) (play_keeper e.keeper call)
play_on e (Ledger call) frame = in_place (ends_with_ledger e) (play_ledger e.ledger call frame)

-- a call is made on ends that are open; an open is not
abbrev pub needs_open : Call → Bool
needs_open (Open o) = false
needs_open (Keeper call) = true
needs_open (Ledger call) = true

-- a line that says no call prints `unreadable`, a call before any accepted open `unopened`
abbrev pub play : Ends → Option Call → List ℕ → Step Ends
play e None frame = answered e A.TheVariants.Unreadable
play e (Some call) frame = if needs_open call and not e.opened then answered e A.TheVariants.Unopened else play_on e call frame

-- ---- the output

-- both ends, the output and the place of its next line
pub record Played : Type 0 where
  pub ends : Ends
  pub out : List ℕ
  pub at : ℕ

-- the line at a place of an output
abbrev pub laying : Step Ends → List ℕ → ℕ → Played
laying s out at = record { ends = s.state; out = sets out at s.line; at = at + length s.line }

-- a call is played where there is room for any line; else nothing changes
unfoldable pub play_into : Ends → Option Call → List ℕ → List ℕ → ℕ → Played
play_into e call frame out at = if leb (at + most_text) (length out) then laying (play e call frame) out at else record { ends = e; out = out; at = at }

-- this state is a step's, and its line is laid on an output with room for any
pub record Plays {S : Type 0} (x : Step S) (s : S) (o p : Output) : Type 0 where
  pub state_is : s ≡ x.state
  pub said : Said o x.line p

-- a call, if a line says one, was played on both ends and an output that has the octets which were lent to it, and which it stays within
pub record PlaysInto (e : Ends) (call : Option Call) (frame : List ℕ) (o : Output) (e' : Ends) (p : Output) : Type 0 where
  pub loan : p.octets.ghost_name ≡ o.octets.ghost_name
  pub after : ◌≡◌ {A = Played} (record { ends = e'; out = p.octets.now; at = p.at }) (play_into e call frame o.octets.now o.at)
  pub within : o.at ≤ length o.octets.now → p.at ≤ length p.octets.now
