-- `failure_text`: how many lines were answered, and what failed behind it. Assumes nothing.
use Rattle.std.proofs.Common.{◌≡◌, take, ap, ◌∙◌, arith, length-take, rules, w32, to_z, of_z}
use Rattle.lister_text.proofs.Laying.{puts_then}
use Rattle.program_io.specs.Failures.{most_word, error_number}
use Rattle.program_io.proofs.Texts.{failing_most}
use Rattle.program_io.proofs.failure_text.Goals as goal
use Rattle.program_io.proofs.failure_text.Goals.{After-error_number}

-- the number that is laid is the error's
number_is : (c : After-error_number) → c.error_number.result ≡ error_number c.args.error
number_is c =
    -- the code's own number is the one that it stands for
    let own : to_z w32 (of_z w32 c.args.error) ≡ c.args.error = search rules in
    c.error_number.ensures ∙ ap error_number own

pub returns : goal.returns
returns c =
    let name = c.args.name.now in
    let what = c.args.what.now in
    let is = number_is (goal.at.returns c).After-error_number in
    let puts = puts_then c.lay_answered.ensures (rw is at c.lay_failed.ensures) in
    let few = failing_most (take most_word name) (take most_word what) c.args.lines _ (omega (arith, length-take most_word name)) (omega (arith, length-take most_word what)) c.ranges.lines.fits
    (rw is at c.error_number.type_inv) in
    (puts.lays (omega (arith, few, c.told-text))).laid
