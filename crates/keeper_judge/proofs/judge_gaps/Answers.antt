-- `judge_gaps`: what is given up stands within the numbers held, and base behind it is the machine's. Assumes nothing.
use Rattle.std.proofs.Common.{◌≤◌, length, ◌∙◌, arith}
use Rattle.basics.proofs.Parts.{rest_part}
use Rattle.keeper_state.proofs.Showing.{numbers_shown}
use Rattle.keeper_judge.proofs.Expiring.{expired, base_shown}
use Rattle.keeper_judge.proofs.judge_gaps.Goals as goal
use Rattle.keeper_judge.proofs.judge_gaps.Goals.{In_ok-lost}

-- from within the numbers on
within : (c : In_ok-lost) → c.in_ok-lost.lost.from ≤ length c.args.held.now.numbers.now
within c = rw (numbers_shown c.args.held.now) at c.in_ok-lost.ensures.1.losing.reaches.within

pub offset_bounds-held-lost : goal.offset_bounds-held-lost
offset_bounds-held-lost c = omega (arith, within (goal.at.offset_bounds-held-lost c).In_ok-lost, c.well_formed)

pub slice_bounds-lowest-count : goal.slice_bounds-lowest-count
slice_bounds-lowest-count c = within (goal.at.slice_bounds-lowest-count c).In_ok-lost

pub slice_bounds-lowest-start : goal.slice_bounds-lowest-start
slice_bounds-lowest-start c = within (goal.at.slice_bounds-lowest-start c).In_ok-lost

pub returns : goal.returns
returns c =
    let h = c.args.held.now in
    let lost = c.in_ok-lost.lost in
    expired _ c.args.distance lost c.in_ok-lost.ensures.0 c.in_ok-lost.ensures.1 c.onward.result
    (c.onward.ensures ∙ rw (c.lowest-open.ensures, rest_part h.numbers.now lost.from) (base_shown h c.from-base.result c.from-base.ensures lost c.args.distance c.in_ok-lost.ensures.0 c.in_ok-lost.ensures.1 c.requires))
