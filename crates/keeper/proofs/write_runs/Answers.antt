-- `write_runs`: the first runs of those listed are the writer's. Assumes nothing.
use Rattle.std.proofs.Common.{List, sym, ◌∙◌, ap}
use mathlib.Core.Path.{ap₂}
use Rattle.frame_layout.specs.Frames.{Range, ranges_of, most_ranges, write_status}
use Rattle.frame_layout.proofs.Ranges.{ranges_take}
use Rattle.keeper.specs.Steps.{status_with}
use Rattle.keeper.proofs.write_runs.Goals as goal

pub returns : goal.returns
returns c =
    let a = c.args in
    let carried = ap₂ ranges_of c.front.ensures c.front-2.ensures ∙ sym (ranges_take most_ranges a.held.now.starts.now a.held.now.ends.now) in
    c.write_status.ensures ∙ ap (λ (runs : List Range). write_status (status_with a.head runs) a.dst.now) carried
