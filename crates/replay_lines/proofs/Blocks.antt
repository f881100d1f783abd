-- A script that is fed in blocks of any sizes, into an output of any room before each call, prints what its lines' calls answer one
-- after another; and how much of that was written tells how many lines were answered.
-- Assumes nothing.
use mathlib.Core.Path.{◌≡◌, refl, ap₂}
use mathlib.Core.Bool.{false}
use Rattle.std.specs.Prelude.{Option, Some, None}
use mathlib.Core.List.{List, [], ◌∷◌, ◌++◌}
use Prim.Native.Nat.{ℕ}
use Rattle.basics.specs.Basics.{Outcome, done, refused}
use Rattle.bearer.specs.Keeper as secondary
use Rattle.bearer.specs.Ledger as master
use Rattle.program_lines.specs.Lines.{lines_of, answers}
use Rattle.program_lines.proofs.Blocks.{calls_answer}
use Rattle.program_lines.proofs.Fronts.{lines_count}
use Rattle.replay_calls.specs.Calls.{read_call}
use Rattle.replay_calls.specs.declared.Call.{Call}
use Rattle.replay_calls.specs.declared.Call.TheVariants.{Open, Keeper, Ledger}
use Rattle.replay_answers.specs.declared.Answer.TheVariants.{Unopened}
use Rattle.replay_ends.specs.Steps.{Step, answered}
use Rattle.replay_ends.specs.Playing.{Ends, opening, play}
use Rattle.replay_ends.proofs.Steps.{plays_unopened}
use Rattle.replay_lines.specs.Scripts.{frame_in, play_line, replaying, ScriptsPlay, ScriptsCount, UnopenedPrint}
use Rattle.replay_lines.specs.Kept.{line_tells}
use Rattle.replay_lines.proofs.OneLine.{play_line_lem}

-- ---- the script whole

-- Whatever the blocks and the rooms were, what was said and the last line's answer are what the script prints, from any ends on.
pub scripts_play : ScriptsPlay
scripts_play = calls_answer replaying line_tells

-- Each answer is a line, and a front of that is the answers to as many lines as it has line feeds, and a part of the next one.
pub scripts_count : ScriptsCount
unfolding play_line
scripts_count = lines_count replaying (λ e l. play_line_lem e (read_call l) (frame_in l))

-- ---- ends that are not opened

-- two ends that are the same or both not opened
pub data Alike : Ends → Ends → Type 0 where
  equal : {e : Ends} → Alike e e
  closed : {e f : Ends} → e.opened ≡ false → f.opened ≡ false → Alike e f

-- steps from such ends: they answer the same, and leave such ends
record Goes (s t : Step Ends) : Type 0 where
  ends : Alike s.state t.state
  says : s.line ≡ t.line

opens_alike : (e f : Ends) (k : Outcome secondary.Keeper) (l : Outcome (master.Ledger Unit)) → e.opened ≡ false → f.opened ≡ false → Goes (opening e k l) (opening f k l)
opens_alike e f (done k) (done l) p q = record { ends = equal; says = refl }
opens_alike e f (done k) (refused n) p q = record { ends = closed p q; says = refl }
opens_alike e f (refused n) l p q = record { ends = closed p q; says = refl }

stays_alike : (e f : Ends) {s t : Step Ends} → s ≡ answered e Unopened → t ≡ answered f Unopened → e.opened ≡ false → f.opened ≡ false → Goes s t
stays_alike e f is too p q = rw (is, too) (record { ends = closed p q; says = refl })

plays_alike : (e f : Ends) (call : Option Call) (frame : List ℕ) → e.opened ≡ false → f.opened ≡ false → Goes (play e call frame) (play f call frame)
plays_alike e f (Some (Open o)) frame p q =
    opens_alike e f (secondary.open_keeper o.bits o.first o.pdcp) (master.open_ledger o.bits o.first o.pdcp) p q
plays_alike e f (Some (Keeper call)) frame p q = stays_alike e f (plays_unopened e (Keeper call) frame refl p) (plays_unopened f (Keeper call) frame refl q) p q
plays_alike e f (Some (Ledger call)) frame p q = stays_alike e f (plays_unopened e (Ledger call) frame refl p) (plays_unopened f (Ledger call) frame refl q) p q
plays_alike e f None frame p q = record { ends = closed p q; says = refl }

line_alike : (e f : Ends) (l : List ℕ) → Alike e f → Goes (play_line e l) (play_line f l)
unfolding play_line
line_alike e f l equal = record { ends = equal; says = refl }
line_alike e f l (closed p q) = plays_alike e f (read_call l) (frame_in l) p q

lines_alike : (e f : Ends) (ls : List (List ℕ)) → Alike e f → answers replaying e ls ≡ answers replaying f ls
lines_alike e f [] a = refl
lines_alike e f (l ∷ ls) a = let g = line_alike e f l a in ap₂ ◌++◌ g.says (lines_alike (play_line e l).state (play_line f l).state ls g.ends)

-- What ends hold that are not opened changes nothing of what a script prints.
pub unopened_print : UnopenedPrint
unopened_print e f script p q = lines_alike e f (lines_of script) (closed p q)
