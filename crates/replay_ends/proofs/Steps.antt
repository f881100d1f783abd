-- What a step leaves of both ends and of an output.
-- Assumes nothing.
use Rattle.std.proofs.Common.{◌≡◌, ℕ, ◌+◌, Bool, true, false, List, length, refl, sym, ap, subst}
use Rattle.std.specs.Prelude.{leb, Option, Some}
use native.Mathlib.Nat.{add-zero}
use Rattle.basics.specs.Laid.{Laid}
use Rattle.bearer.specs.Keeper.{Keeper}
use Rattle.bearer.specs.Ledger.{Ledger}
use Rattle.lister_text.specs.declared.Output.{Output}
use Rattle.replay_calls.specs.declared.Call.{Call}
use Rattle.replay_calls.specs.declared.Call as C
use Rattle.replay_calls.specs.declared.KeeperCall.{KeeperCall}
use Rattle.replay_calls.specs.declared.LedgerCall.{LedgerCall}
use Rattle.replay_answers.specs.declared.Answer.TheVariants.{Unopened}
use Rattle.replay_states.specs.Lines.{line_with, most_text, Said}
use Rattle.replay_ends.specs.Steps.{Step, shown, answered, play_keeper, play_ledger}
use Rattle.replay_ends.specs.Playing.{Ends, ends_of, ends_with_keeper, ends_with_ledger, in_place, needs_open, Played, laying, play, play_into, Plays, PlaysInto}

-- ends and a line that is laid
laid_played : (s : Step Ends) (e : Ends) (d d' : List ℕ) (at next : ℕ) → e ≡ s.state → Laid d at s.line next d' → ◌≡◌ {A = Played} (record { ends = e; out = d'; at = next }) (laying s d at)
laid_played s e d d' at next is l = rw (is, l.behind, l.buffer)

-- where there is room for any line, a call that is played is played into the output
pub into_room : {o p : Output} {e' : Ends} (e : Ends) (call : Option Call) (frame : List ℕ) → leb (o.at + most_text) (length o.octets.now) ≡ true
    → Plays (play e call frame) e' o p → PlaysInto e call frame o e' p
unfolding play_into
into_room {o} {p} {e'} e call frame room x = record {
  loan = x.said.lays.loan;
  after = rw room (laid_played (play e call frame) e' o.octets.now p.octets.now o.at p.at x.state_is (rw room at x.said.lays.laid));
  within = x.said.within;
}

-- and else nothing changes
pub into_full : (o : Output) (e : Ends) (call : Option Call) (frame : List ℕ) → leb (o.at + most_text) (length o.octets.now) ≡ false → PlaysInto e call frame o e o
unfolding play_into
into_full o e call frame full = record { loan = refl; after = rw full; within = λ h. h }

-- a call that leaves both ends as they are, and its line, whether or not there is room
pub into_same : {o p : Output} {line : List ℕ} (e : Ends) (call : Option Call) (frame : List ℕ) → play e call frame ≡ record { state = e; line = line } → Said o line p
    → PlaysInto e call frame o e p
into_same {o} {p} {line} e call frame is s = by (leb (o.at + most_text) (length o.octets.now)) refl
  where
    by : (b : Bool) → leb (o.at + most_text) (length o.octets.now) ≡ b → PlaysInto e call frame o e p
    by true room = into_room e call frame room (record { state_is = sym (ap (λ (x : Step Ends). x.state) is); said = subst (λ (l : List ℕ). Said o l p) (sym (ap (λ (x : Step Ends). x.line) is)) s })
    by false full =
        let none = rw full at s.lays.laid in
        record { loan = s.lays.loan; after = rw (none.behind, none.buffer, add-zero o.at) (into_full o e call frame full).after; within = s.within }

-- a step that leaves a state and fields
pub plays_shown : {S : Type 0} {o p : Output} {x : Step S} {s : S} (fields : List (List ℕ)) → shown s fields ≡ x → Said o (line_with fields) p → Plays x s o p
plays_shown {S} {o} {p} fields is said = record {
  state_is = ap (λ (y : Step S). y.state) is;
  said = subst (λ (y : Step S). Said o y.line p) is said;
}

-- ---- calls on one end

-- on ends that are not open
pub plays_unopened : (e : Ends) (call : Call) (frame : List ℕ) → needs_open call ≡ true → e.opened ≡ false → play e (Some call) frame ≡ answered e Unopened
plays_unopened e call frame needs closed = rw (needs, closed)

-- a step of one end is one of both
in_place_lem : {S : Type 0} {o p : Output} {s' : S} (put : S → Ends) (x : Step S) → Plays x s' o p → Plays (in_place put x) (put s') o p
in_place_lem put x s = record { state_is = ap put s.state_is; said = s.said }

-- a step of the secondary
pub plays_keeper : {o p : Output} {k' : Keeper} (opened : Bool) (k : Keeper) (l : Ledger Unit) (call : KeeperCall) (frame : List ℕ) → opened ≡ true
    → Plays (play_keeper k call) k' o p → Plays (play (ends_of opened k l) (Some (C.TheVariants.Keeper call)) frame) (ends_of opened k' l) o p
plays_keeper opened k l call frame on s = rw on (in_place_lem (ends_with_keeper (ends_of true k l)) (play_keeper k call) s)

-- a step of the master
pub plays_ledger : {o p : Output} {l' : Ledger Unit} (opened : Bool) (k : Keeper) (l : Ledger Unit) (call : LedgerCall) (frame : List ℕ) → opened ≡ true
    → Plays (play_ledger l call frame) l' o p → Plays (play (ends_of opened k l) (Some (C.TheVariants.Ledger call)) frame) (ends_of opened k l') o p
plays_ledger opened k l call frame on s = rw on (in_place_lem (ends_with_ledger (ends_of true k l)) (play_ledger l call frame) s)
