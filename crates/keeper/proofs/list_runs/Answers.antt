-- `list_runs`: the first new run joins the last listed one or stands behind it, and the others follow. Assumes nothing.
use Rattle.std.proofs.Common.{◌-◌, arith}
use Rattle.circle.specs.Lengths.{modulus}
use Rattle.keeper.specs.Steps.{Lists}
use Rattle.keeper.proofs.Listing.{part_joined, part_behind}
use Rattle.keeper.proofs.list_runs.Goals as goal
use Rattle.keeper.proofs.list_runs.Goals.{Start}

lists : (c : Start) → let a = c.args in Lists a.lost (modulus a.base.long) a.base.at a.numbers.now a.starts.now a.ends.now a.listed
lists c = record { losing = c.requires.0; within = omega arith; alike = omega arith; few = omega arith }

pub returns-then-lost : goal.returns-then-lost
returns-then-lost c =
    part_joined (lists (goal.at.returns-then-lost c).Start) c.if-lost.true (256 - (c.args.listed - 1)) (omega arith) _ _ c.list_gaps.ensures.starts_after c.list_gaps.ensures.ends_after

pub returns : goal.returns
returns c =
    part_behind (lists (goal.at.returns c).Start) c.if-lost.false (256 - c.args.listed) (omega arith) _ _ c.list_gaps-2.ensures.starts_after c.list_gaps-2.ensures.ends_after
