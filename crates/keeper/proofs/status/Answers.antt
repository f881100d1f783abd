-- `status`: no more records go than are held, and each step keeps what is plain. Assumes nothing.
use Rattle.std.proofs.Common.{ap, arith, length, drop}
use Rattle.frame_layout.specs.Frames.{most_ranges}
use Rattle.bearer.specs.Keeper.{Keeper, may_go}
use Rattle.bearer.proofs.Lists.Elements.{run_within}
use Rattle.keeper_state.specs.Lent.{state_shown}
use Rattle.keeper_report.specs.declared.Gone.{Gone}
use Rattle.keeper.proofs.status.Goals as goal

pub drop_records-requires : goal.drop_records-requires
drop_records-requires c =
    let k = state_shown c.held-held.result in
    let count : Keeper → _ = λ (k : Keeper). length k.records in
    omega (
      arith,
      ap (λ (g : Gone). g.count) c.in_ok-gone.ensures.gone_is,
      run_within (may_go k (drop most_ranges k.runs)) k.records,
      ap count c.held-held.ensures.state,
      ap count c.drop_runs.ensures.state,
    )

pub returns-clause-plain : goal.returns-clause-plain
returns-clause-plain c p = c.report.ensures.plain (c.drop_records.ensures.plain (c.drop_runs.ensures.plain p))
