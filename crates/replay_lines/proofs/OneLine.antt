-- Each call is answered by one line.
-- Assumes nothing.
use mathlib.Core.Bool.{not}
use Rattle.std.specs.Prelude.{Option, Some, None}
use Rattle.replay_answers.specs.declared.Answer.{Answer}
use Rattle.replay_states.specs.Lines.{line_with}
use mathlib.Core.List.{List}
use Prim.Native.Nat.{ℕ, min}
use lib.ListN.{take, replicate}
use Rattle.basics.specs.Basics.{Outcome, done, refused, ◌and◌}
use Rattle.bearer.specs.Keeper as secondary
use Rattle.bearer.specs.Ledger as master
use Rattle.lister_text.specs.Texts.{IsLine}
use Rattle.lister_text.proofs.Cases.{true_or}
use Rattle.replay_calls.specs.Calls.{most_room}
use Rattle.replay_calls.specs.declared.Call.{Call}
use Rattle.replay_calls.specs.declared.Call.TheVariants.{Open, Keeper, Ledger}
use Rattle.replay_calls.specs.declared.KeeperCall as K
use Rattle.replay_calls.specs.declared.LedgerCall as L
use Rattle.replay_answers.specs.declared.Answer as A
use Rattle.replay_states.proofs.OneLine.{keeper_line, ledger_line}
use Rattle.replay_answers.proofs.OneLine.{answer_line, refused_line, frame_line}
use Rattle.replay_ends.specs.Steps.{fields_by, ok_answer, freed_answer, taken_answer, status_line, reporting, play_keeper, play_ledger}
use Rattle.replay_ends.specs.Playing.{Ends, opening, needs_open, play_on, play}

status_line_lem : (a : Outcome ℕ) (buffer : List ℕ) → IsLine (status_line a buffer)
status_line_lem (done n) buffer = frame_line (take n buffer)
status_line_lem (refused n) buffer = refused_line n

fields_line : {A : Type 0} (f : A → Answer) (a : Outcome A) → IsLine (line_with (fields_by f a))
fields_line f (done a) = answer_line (f a)
fields_line f (refused n) = refused_line n

reported_line : (r : secondary.Reported) → IsLine (reporting r).line
reported_line r = status_line_lem r.answer r.buffer

keeper_call : (k : secondary.Keeper) (c : K.KeeperCall) → IsLine (play_keeper k c).line
keeper_call k (K.TheVariants.Arrive number pdcp) = fields_line A.TheVariants.Lost (secondary.arrive k number pdcp).answer
keeper_call k (K.TheVariants.Expire mark) = fields_line A.TheVariants.Lost (secondary.expire k mark).answer
keeper_call k (K.TheVariants.Confirm number) = fields_line ok_answer (secondary.confirm k number).answer
keeper_call k (K.TheVariants.Status s) = reported_line (secondary.status k s.desired s.minimum s.last (replicate (min s.room most_room) 0))
keeper_call k K.TheVariants.Show = keeper_line k

ledger_call : (l : master.Ledger Unit) (c : L.LedgerCall) (frame : List ℕ) → IsLine (play_ledger l c frame).line
ledger_call l (L.TheVariants.Send pdcp size) frame = fields_line A.TheVariants.Sent (master.send l pdcp size tt).answer
ledger_call l (L.TheVariants.Accept count) frame = fields_line freed_answer (master.accept l (take count frame)).answer
ledger_call l L.TheVariants.Take frame = fields_line taken_answer (master.take_oldest l).answer
ledger_call l L.TheVariants.Room frame = answer_line (A.TheVariants.Room (master.kept_room l))
ledger_call l L.TheVariants.Show frame = ledger_line l

open_call : (e : Ends) (k : Outcome secondary.Keeper) (l : Outcome (master.Ledger Unit)) → IsLine (opening e k l).line
open_call e (done k) (done l) = answer_line A.TheVariants.Ok
open_call e (done k) (refused n) = refused_line n
open_call e (refused n) l = refused_line n

call_line : (e : Ends) (c : Call) (frame : List ℕ) → IsLine (play_on e c frame).line
call_line e (Open o) frame = open_call e (secondary.open_keeper o.bits o.first o.pdcp) (master.open_ledger o.bits o.first o.pdcp)
call_line e (Keeper c) frame = keeper_call e.keeper c
call_line e (Ledger c) frame = ledger_call e.ledger c frame

pub play_line_lem : (e : Ends) (c : Option Call) (frame : List ℕ) → IsLine (play e c frame).line
play_line_lem e None frame = answer_line A.TheVariants.Unreadable
play_line_lem e (Some c) frame = true_or (needs_open c and not e.opened) (λ t. rw t (answer_line A.TheVariants.Unopened)) (λ t. rw t (call_line e c frame))
