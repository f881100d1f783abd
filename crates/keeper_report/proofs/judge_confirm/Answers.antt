-- `judge_confirm`: the tests are the machine's, in its order; the record is found by the machine's search. Assumes nothing.
use Rattle.std.proofs.Common.{◌≡◌, true, ◌<◌, sym, ◌∙◌, ap, arith}
use Rattle.circle.specs.Lengths.{modulus}
use Rattle.bearer.specs.Losses.{before}
use Rattle.keeper_state.specs.State.{is_open, modulus_in}
use Rattle.keeper_loss.specs.declared.Point.{Point}
use Rattle.keeper_report.proofs.Confirming.{nowhere, not_behind, marked_already, marks}
use Rattle.keeper_report.proofs.judge_confirm.Goals as goal
use Rattle.keeper_report.proofs.judge_confirm.Goals.{After-index_of, After-is_before, then-not-is_before-via-then-not-is_before, then-not-is_before-via-else-not-is_before+then-is_set}

-- the end is open
opened : (c : After-index_of) → is_open c.args.held.now.words.opened ≡ true
opened c = sym c.is_open.ensures ∙ c.if-not-is_open.false

-- the number is one of the form
good : (c : After-index_of) → c.args.number < modulus_in c.args.held.now.words
good c = omega (arith, c.modulus.ensures ∙ ap (λ (b : Point). modulus b.long) c.from-base.ensures, c.if-modulus-number.false)

pub returns-in_default : goal.returns-in_default
returns-in_default c =
    let k = (goal.at.returns-in_default c).After-index_of in
    λ runs. nowhere c.args.held.now runs c.args.number (opened k) (good k) (sym c.index_of.ensures ∙ c.in_default.is)

-- whether it lies before base
lies : (c : After-is_before) → let h = c.args.held.now in before (modulus_in h.words) h.words.base c.args.number ≡ c.is_before.result
lies c = sym (c.is_before.ensures ∙ ap (λ (b : Point). before (modulus b.long) b.at c.args.number) c.from-base.ensures)

pub returns-then-not-is_before : goal.returns-then-not-is_before
returns-then-not-is_before c =
    let k = (goal.at.returns-then-not-is_before c).After-index_of in
    let b = (goal.at.returns-then-not-is_before c).After-is_before in
    let at = sym c.index_of.ensures ∙ c.in-Some.is in
    λ runs.
    elim c.then-not-is_before.branch [
      | then-not-is_before-via-then-not-is_before w ↦ not_behind c.args.held.now runs c.args.number (opened k) (good k) c.in-Some.at at (lies b ∙ w.if-not-is_before.true)
      | then-not-is_before-via-else-not-is_before+then-is_set w ↦ marked_already c.args.held.now runs c.args.number (opened k) (good k) c.in-Some.at at (lies b ∙ w.if-not-is_before.false) (sym w.is_set.ensures ∙ w.if-is_set.true)
    ]

pub returns : goal.returns
returns c =
    let k = (goal.at.returns c).After-index_of in
    let b = (goal.at.returns c).After-is_before in
    λ runs. marks c.args.held.now runs c.args.number (opened k) (good k) c.in-Some.at (sym c.index_of.ensures ∙ c.in-Some.is) (lies b ∙ c.if-not-is_before.false) (sym c.is_set.ensures ∙ c.if-is_set.false)
