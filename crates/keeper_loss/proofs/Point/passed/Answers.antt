-- `Point::passed`: the number that is found is the last one that lies before, or there is none. Assumes nothing.
use Rattle.std.proofs.Common.{rules, sym}
use Rattle.circle.specs.Lengths.{modulus}
use Rattle.bearer.specs.Losses.{from_on}
use Rattle.keeper_loss.proofs.Ends.{front_all, front_after}
use Rattle.keeper_loss.proofs.Point.passed.Goals as goal

pub returns-in-Some : goal.returns-in-Some
returns-in-Some c =
    let a = c.args in
    sym (front_after (from_on (modulus a.self.long) a.self.at) a.numbers.now c.in-Some.last (search rules) (search rules) (search rules))

pub returns-in-None : goal.returns-in-None
returns-in-None c =
    let a = c.args in
    sym (front_all (from_on (modulus a.self.long) a.self.at) a.numbers.now (search rules))
