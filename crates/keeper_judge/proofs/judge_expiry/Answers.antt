-- `judge_expiry`: the tests are the machine's, in its order. Assumes nothing.
use Rattle.std.proofs.Common.{◌≡◌, false, not, ◌<◌, sym, ◌∙◌, ap, arith}
use Rattle.circle.specs.Lengths.{modulus, modulus_of}
use Rattle.bearer.specs.Keeper.{mark_beyond}
use Rattle.keeper_state.specs.Lent.{state_shown}
use Rattle.keeper_loss.specs.declared.Point.{Point}
use Rattle.keeper_judge.proofs.Arriving.{far_shown}
use Rattle.keeper_judge.proofs.Expiring.{beyond, none, below, beyond_shown, precedes_shown}
use Rattle.keeper_judge.proofs.judge_expiry.Goals as goal
use Rattle.keeper_judge.proofs.judge_expiry.Goals.{After-is_before, After-is_ahead, else-not-is_before-via-then-not-is_before+else-is_beyond, else-not-is_before-via-else-not-is_before}

-- the end is open
opened : (c : After-is_before) → (state_shown c.args.held.now).closed ≡ false
opened c = ap not (sym c.is_open.ensures ∙ c.if-not-is_open.false)

-- the mark is a number of the form
good : (c : After-is_before) → c.args.mark < modulus_of (state_shown c.args.held.now).bits
good c = omega (arith, c.modulus.ensures ∙ ap (λ (b : Point). modulus b.long) c.from-base.ensures, c.if-modulus-mark.false)

-- it isn't beyond the highest accepted
near : (c : After-is_ahead) → mark_beyond (state_shown c.args.held.now) c.args.mark ≡ false
near c =
    let b = c.from-base.result in
    sym (beyond_shown c.args.held.now b c.from-base.ensures c.args.mark)
    ∙ elim c.else-not-is_before.branch [
      | else-not-is_before-via-then-not-is_before+else-is_beyond w ↦ rw (sym c.is_before.ensures ∙ w.if-not-is_before.true, sym w.is_beyond.ensures ∙ w.if-is_beyond.false)
      | else-not-is_before-via-else-not-is_before w ↦ rw (sym c.is_before.ensures ∙ w.if-not-is_before.false)
    ]

pub returns-then-is_beyond : goal.returns-then-is_beyond
returns-then-is_beyond c =
    let h = c.args.held.now in
    let k = (goal.at.returns-then-is_beyond c).After-is_before in
    beyond (state_shown h) c.args.mark (opened k) (good k)
    (sym (beyond_shown h c.from-base.result c.from-base.ensures c.args.mark) ∙ rw (sym c.is_before.ensures ∙ c.if-not-is_before.true, sym c.is_beyond.ensures ∙ c.if-is_beyond.true))

pub returns-then-not-is_ahead : goal.returns-then-not-is_ahead
returns-then-not-is_ahead c =
    let h = c.args.held.now in
    let k = (goal.at.returns-then-not-is_ahead c).After-is_before in
    let l = (goal.at.returns-then-not-is_ahead c).After-is_ahead in
    none (state_shown h) c.args.mark (opened k) (good k) (near l)
    (sym (precedes_shown h c.from-base.result c.from-base.ensures c.args.mark) ∙ ap not (sym c.is_ahead.ensures ∙ c.if-not-is_ahead.true))

pub returns : goal.returns
returns c =
    let h = c.args.held.now in
    let k = (goal.at.returns c).After-is_before in
    let l = (goal.at.returns c).After-is_ahead in
    let some = sym (precedes_shown h c.from-base.result c.from-base.ensures c.args.mark) ∙ ap not (sym c.is_ahead.ensures ∙ c.if-not-is_ahead.false) in
    rw (below (state_shown h) c.args.mark (opened k) (good k) (near l) some, ← far_shown h c.from-base.result c.from-base.ensures c.args.mark, ← c.distance.ensures) c.judge_gaps.ensures
