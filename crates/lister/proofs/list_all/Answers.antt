-- `list_all`: what a run says from the first line on is the listing. Assumes nothing.
use Rattle.lister_lines.specs.Listing.{lister}
use Rattle.lister_lines.proofs.Kept.{line_tells}
use Rattle.program_run.proofs.Runs.{ran_told}
use Rattle.lister.proofs.list_all.Goals as goal

pub returns : goal.returns
returns g c = ran_told lister tt line_tells (rw c.new-2.ensures at c.run.ensures)
