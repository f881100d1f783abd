-- `play_all`: what a run says from the first line on is what the script prints. Assumes nothing.
use Rattle.replay_lines.specs.Scripts.{replaying}
use Rattle.replay_lines.specs.Kept.{line_tells}
use Rattle.replay_lines.specs.Held.{ends_of_script}
use Rattle.program_run.proofs.Runs.{ran_told}
use Rattle.replay.proofs.Runs.{ran_alike}
use Rattle.replay.proofs.play_all.Goals as goal

pub returns : goal.returns
returns g c e shut =
    let first = ends_of_script c.new.result in
    ran_alike first e c.new.ensures.unopened shut (ran_told replaying first line_tells (rw c.new-2.ensures at c.run.ensures))
