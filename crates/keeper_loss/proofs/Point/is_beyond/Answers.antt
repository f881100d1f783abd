-- `Point::is_beyond`: of the last number, where there is one that is not before. Assumes nothing.
use Rattle.std.proofs.Common.{◌-◌, length, sym, ◌∙◌, arith}
use Rattle.circle.specs.Lengths.{modulus}
use Rattle.keeper_loss.proofs.Ends.{beyond_last}
use Rattle.keeper_loss.proofs.Point.is_beyond.Goals as goal

pub returns-then-is_before : goal.returns-then-is_before
returns-then-is_before c =
    let a = c.args in
    rw (beyond_last (modulus a.self.long) a.self.at a.numbers.now a.number (length a.numbers.now - 1) (omega arith)) (rw (sym c.is_before.ensures ∙ c.if-is_before.true) c.if-is_before.true)

pub returns-else-is_before : goal.returns-else-is_before
returns-else-is_before c =
    let a = c.args in
    rw (beyond_last (modulus a.self.long) a.self.at a.numbers.now a.number (length a.numbers.now - 1) (omega arith)) (rw (sym c.is_before.ensures ∙ c.if-is_before.false) c.is_ahead.ensures)
