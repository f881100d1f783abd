-- `reach`: the numbers behind those that lie before base. Assumes nothing.
use Rattle.std.proofs.Common.{ℕ, ◌<◌, drop, ap, arith}
use Rattle.circle.specs.Lengths.{modulus}
use Rattle.bearer.specs.Losses.{from_on}
use Rattle.bearer.proofs.Lists.Mapped.{front_within}
use Rattle.keeper_judge.proofs.reach.Goals as goal

pub returns-else-limit-eq0 : goal.returns-else-limit-eq0
returns-else-limit-eq0 c =
    let a = c.args in
    record {
      within = omega (arith, c.passed.ensures, front_within (from_on (modulus a.base.long) a.base.at) a.numbers.now);
      from_is = λ (h : 0 < a.limit). ap (λ (i : ℕ). drop i a.numbers.now) c.passed.ensures;
    }
