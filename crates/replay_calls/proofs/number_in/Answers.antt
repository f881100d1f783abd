-- `number_in`: it is above the largest as soon as the digits read so far are. Assumes nothing.
use Rattle.std.proofs.Common.{slice_index, sym, ◌∙◌, arith, rules}
use Rattle.replay_calls.proofs.Numbers.{digit_says, grown_large, read_whole}
use Rattle.replay_calls.proofs.number_in.Goals as goal

pub returns-in_err-checked_mul : goal.returns-in_err-checked_mul
returns-in_err-checked_mul c =
    let l = c.loop-c in
    c.from_residual.ensures ∙ sym (grown_large c.args.field.now l.c-index c.loop-c-test.true l.value l.invariant.value (omega (arith, c.in_err-checked_mul.ensures)))

pub returns-in_err-value : goal.returns-in_err-value
returns-in_err-value c =
    let l = c.loop-c in
    let digit = digit_says (slice_index c.args.field.now l.c-index) c.in_ok-digit.field-0 (sym c.in_ok-digit.was ∙ c.digit.ensures) in
    c.from_residual-in_err-value.ensures
    ∙ sym (grown_large c.args.field.now l.c-index c.loop-c-test.true l.value l.invariant.value (omega (arith, digit, c.in_ok-checked_mul.ensures, c.in_err-value.ensures)))

pub returns : goal.returns
returns c =
    let l = c.loop-c in
    read_whole c.args.field.now l.c-index l.value c.loop-c-test.false (search rules) c.if-field-gt-MOST_DIGITS.false l.invariant.fits l.invariant.digits l.invariant.value
