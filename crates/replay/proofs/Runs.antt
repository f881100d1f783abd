-- A script that is played on ends that aren't opened: what they hold changes nothing of what is printed.
-- Assumes nothing.
use Rattle.std.proofs.Common.{◌≡◌, Bool, false, List, ℕ, ◌∙◌}
use Rattle.std.specs.Prelude.{Option}
use Rattle.program_run.specs.Running.{Ran}
use Rattle.replay_ends.specs.Playing.{Ends}
use Rattle.replay_lines.specs.Scripts.{replaying}
use Rattle.replay_lines.proofs.Blocks.{unopened_print}

-- a run from ends that aren't opened is one from any others
pub ran_alike : {i i' o o' : Option (List ℕ)} (e f : Ends) {whole : Bool} → e.opened ≡ false → f.opened ≡ false → Ran replaying e i i' o o' whole → Ran replaying f i i' o o' whole
ran_alike e f p q r =
    let same = unopened_print e f r.read p q in
    record { read = r.read; written = r.written; reads = r.reads; writes = r.writes; front = (r.front.0, r.front.1 ∙ same); all = λ w. let a = r.all w in (a.0 ∙ same, a.1) }
