-- `lay_answered`: its parts one behind another; itoa's digits are the lines in decimal. Assumes nothing.
use Rattle.std.proofs.Common.{take, ◌∙◌, rules}
use Rattle.lister_text.specs.Texts.{ascii, decimal}
use Rattle.lister_text.proofs.Decimal.{standard_decimal}
use Rattle.lister_text.proofs.Laying.{puts_text, puts_then}
use Rattle.program_io.specs.Failures.{most_word}
use Rattle.program_io.proofs.lay_answered.Goals as goal

pub returns : goal.returns
returns c =
    let name = take most_word c.args.name.now in
    let lines = c.args.lines in
    let digits = c.as_bytes.ensures.value ∙ c.format.ensures.text ∙ standard_decimal lines (search rules) in
    puts_then (puts_then (puts_text name (rw c.front.ensures at c.text.ensures)) (puts_text (ascii ": lines answered: ") c.text-2.ensures))
    (puts_text (decimal lines) (rw digits at c.text-3.ensures))
