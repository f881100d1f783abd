-- `joins_last`: the last listed run ends one number before. Assumes nothing.
use Rattle.std.proofs.Common.{◌-◌, length, sym, arith}
use Rattle.circle.specs.Lengths.{modulus}
use Rattle.keeper_judge.proofs.Numbers.{adjoins_at}
use Rattle.keeper_judge.proofs.joins_last.Goals as goal

pub returns : goal.returns
returns c =
    let a = c.args in
    rw (c.in-Some-len1-up.is-0, c.distance.ensures, c.onward.ensures)
    (sym (adjoins_at (modulus a.base.long) _ a.ends.now (length a.ends.now - 1) (omega arith)))
