-- `confirm`: the mark of the record that was found is set. Assumes nothing.
use Rattle.std.proofs.Common.{◌<◌, length, ap, refl, arith}
use Rattle.std.proofs.Math.ListN.{length-take}
use borrow.Author.Tests.{ltb-true}
use Rattle.keeper_state.specs.State.{words_in, held_in}
use Rattle.keeper_state.specs.Lent.{state_shown}
use Rattle.keeper_state.proofs.Showing.{count_shown}
use Rattle.keeper_report.specs.Reports.{AcceptsConfirm}
use Rattle.keeper.proofs.Changed.{confirmed}
use Rattle.keeper.proofs.Plain.{plain_confirmed}
use Rattle.keeper.proofs.confirm.Goals as goal
use Rattle.keeper.proofs.confirm.Goals.{In_ok-at}

-- the record was found, whatever runs are listed: with those that are
found : (c : In_ok-at) → AcceptsConfirm c.in_ok-at.at (state_shown c.held.result) c.args.number
found c = c.in_ok-at.ensures (state_shown c.held.result).runs

-- its place is one of the array's
within : (c : In_ok-at) → c.in_ok-at.at < 512
within c =
    let h = c.held.result in
    omega (arith, (found c).within, count_shown h, ap length c.held.ensures.shows.numbers, length-take (held_in h.words) c.args.state.now.numbers.now)

pub offset_bounds-state-at : goal.offset_bounds-state-at
offset_bounds-state-at c = omega (arith, within (goal.at.offset_bounds-state-at c).In_ok-at)

pub bounds-state-at : goal.bounds-state-at
bounds-state-at c = within (goal.at.bounds-state-at c).In_ok-at

pub returns-clause-words_after : goal.returns-clause-words_after
returns-clause-words_after c =
    let s = c.args.state.now in
    let k = (goal.at.returns-clause-words_after c).In_ok-at in
    confirmed (words_in s.words.now) s.numbers.now s.pdcps.now s.marks.now s.starts.now s.ends.now (rw c.held.ensures.state at (found k)) _ refl

pub returns-clause-plain : goal.returns-clause-plain
returns-clause-plain c = plain_confirmed c.in_ok-at.at _ (ltb-true _ 2 refl)
