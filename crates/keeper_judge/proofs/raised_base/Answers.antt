-- `raised_base`: the lowest distance that is not taken, at or past the limit. Assumes nothing.
use Rattle.std.proofs.Common.{◌≡◌, sym, ◌∙◌}
use Rattle.std.proofs.Math.Numerals.{add-one}
use borrow.Author.Tests.{eq-eqb, ne_eqb}
use Rattle.circle.specs.Lengths.{modulus}
use Rattle.bearer.specs.Losses.{offsets, lowest}
use Rattle.keeper_loss.proofs.Bounds.{lowest_snoc}
use Rattle.keeper_judge.proofs.raised_base.Goals as goal

pub returns-then-low-top : goal.returns-then-low-top
returns-then-low-top c =
    let a = c.args in
    let os = offsets (modulus a.base.long) a.base.at a.above.now in
    let low = lowest a.limit os in
    let is : c.lowest-low.result ≡ low = c.lowest-low.ensures in
    let same : a.top ≡ low = sym c.if-low-top.true ∙ is in
    rw (lowest_snoc a.limit os a.top, eq-eqb a.top low same, ← add-one low, ← is) c.onward.ensures

pub returns-else-low-top : goal.returns-else-low-top
returns-else-low-top c =
    let a = c.args in
    let os = offsets (modulus a.base.long) a.base.at a.above.now in
    let low = lowest a.limit os in
    let is : c.lowest-low.result ≡ low = c.lowest-low.ensures in
    let other : a.top ≡ low → ⊥ = λ (e : a.top ≡ low). c.if-low-top.false (is ∙ sym e) in
    rw (lowest_snoc a.limit os a.top, ne_eqb a.top low other, ← is) c.onward-else-low-top.ensures
