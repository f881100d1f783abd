-- `lost_below`: the gaps below the limit are counted once, and are the runs that would be listed. Assumes nothing.
use Rattle.std.proofs.Common.{◌≡◌, refl, ◌∙◌, drop, arith}
use Rattle.basics.proofs.Parts.{rest_part}
use Rattle.circle.specs.Lengths.{modulus}
use Rattle.bearer.specs.Losses.{offsets, gaps}
use Rattle.keeper_loss.specs.Tally.{told}
use Rattle.keeper_judge.proofs.Given.{gaps_fit, losing}
use Rattle.keeper_judge.proofs.lost_below.Goals as goal
use Rattle.keeper_judge.proofs.lost_below.Goals.{After-joins_last-joins}

-- this is told of the gaps
tells : (c : After-joins_last-joins) → let b = c.from-base.result in
    c.given_up-up.result ≡ told (gaps 0 c.args.limit (offsets (modulus b.long) b.at (drop c.reach-from.result c.args.held.now.numbers.now)))
tells c = c.given_up-up.ensures ∙ rw (rest_part c.args.held.now.numbers.now c.reach-from.result)

pub overflow_add-runs : goal.overflow_add-runs
overflow_add-runs c =
    let k = (goal.at.overflow_add-runs c).After-joins_last-joins in
    omega (arith, gaps_fit c.args.held.now c.from-base.result c.from-base.ensures c.reach-from.result c.args.limit c.given_up-up.result c.joins_last-joins.result c.reach-from.ensures (tells k) c.joins_last-joins.ensures (omega (arith, c.well_formed)), c.well_formed)

pub returns-then-runs-gt-MOST_RUNS : goal.returns-then-runs-gt-MOST_RUNS
returns-then-runs-gt-MOST_RUNS c =
    let k = (goal.at.returns-then-runs-gt-MOST_RUNS c).After-joins_last-joins in
    let lost = losing c.args.held.now c.from-base.result c.from-base.ensures c.reach-from.result c.args.limit c.given_up-up.result c.joins_last-joins.result c.reach-from.ensures (tells k) c.joins_last-joins.ensures in
    (refl, rw (← lost.runs_are, ← c.from.ensures) c.if-runs-gt-MOST_RUNS.true)

pub returns : goal.returns
returns c =
    let k = (goal.at.returns c).After-joins_last-joins in
    let lost = losing c.args.held.now c.from-base.result c.from-base.ensures c.reach-from.result c.args.limit c.given_up-up.result c.joins_last-joins.result c.reach-from.ensures (tells k) c.joins_last-joins.ensures in
    (refl, record { losing = rw c.from.ensures lost; few = c.if-runs-gt-MOST_RUNS.false })
