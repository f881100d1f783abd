-- `Held::of`: what is read is the state in the arrays. Assumes nothing.
use Rattle.keeper_state.specs.State.{arrays}
use Rattle.keeper_state.proofs.Showing.{shown}
use Rattle.keeper_state.proofs.Held.of.Goals as goal

pub returns-clause-state : goal.returns-clause-state
returns-clause-state c =
    rw (c.first.ensures.front, c.first-2.ensures.front, c.first-3.ensures.front, c.first-4.ensures.front, c.first-5.ensures.front)
    (shown (arrays c.args.numbers.now c.args.pdcps.now c.args.marks.now c.args.starts.now c.args.ends.now c.args.words.now) _ _ _ c.from-words.ensures c.held-held.ensures c.listed-listed.ensures)
