-- `Output::decimal`: a number of one digit is that, and any other has as many as its logarithm says. Assumes nothing.
use Rattle.std.proofs.Common.{◌≡◌, suc, ◌+◌, ◌*◌, ◌^◌, length, sym, refl, ◌∙◌, pow-suc, arith, leb-true}
use Rattle.lister_text.specs.Texts.{decimal}
use Rattle.lister_text.proofs.Decimal.{decimal_one, length_decimal}
use Rattle.lister_text.proofs.Output.decimal.Goals as goal
use Rattle.lister_text.proofs.Output.decimal.Goals.{After-ilog10}

-- so many digits
digits : (c : After-ilog10) → c.ilog10.result + 1 ≡ length (decimal c.args.n)
digits c =
    let k = c.ilog10.result in
    let p : 10 ^ suc k ≡ 10 ^ k * 10 = pow-suc 10 k in
    omega (arith, length_decimal k c.args.n c.ilog10.ensures.power_le (omega (arith, p, c.ilog10.ensures.next_power_gt)))

pub returns-then-n-lt10 : goal.returns-then-n-lt10
returns-then-n-lt10 c = rw (decimal_one c.args.n c.if-n-lt10.true) c.octet.ensures

pub put_decimal-self-requires : goal.put_decimal-self-requires
put_decimal-self-requires c =
    let fits = sym (c.if-fits.true) ∙ c.fits.ensures in
    (digits (goal.at.put_decimal-self-requires c).After-ilog10, leb-true _ _ (sym fits))

pub returns-then-fits : goal.returns-then-fits
returns-then-fits c =
    let fits = sym (c.if-fits.true) ∙ c.fits.ensures in
    record { loan = refl; laid = rw (← digits (goal.at.returns-then-fits c).After-ilog10, sym fits) c.put_decimal-self.ensures }

pub returns-else-fits : goal.returns-else-fits
returns-else-fits c =
    let fits = sym (c.if-fits.false) ∙ c.fits.ensures in
    record { loan = refl; laid = rw (← digits (goal.at.returns-else-fits c).After-ilog10, sym fits) (record { behind = omega arith; buffer = refl }) }
