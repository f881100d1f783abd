-- `lay_failed`: its parts one behind another. Assumes nothing.
use Rattle.std.proofs.Common.{take}
use Rattle.lister_text.specs.Texts.{ascii, decimal}
use Rattle.lister_text.proofs.Laying.{puts_text, puts_then}
use Rattle.program_io.specs.Failures.{most_word}
use Rattle.program_io.proofs.lay_failed.Goals as goal

pub returns : goal.returns
returns c =
    let what = take most_word c.args.what.now in
    puts_then (puts_then (puts_then (puts_text (ascii "; ") c.text.ensures) (puts_text what (rw c.front.ensures at c.text-2.ensures)))
    (puts_text (ascii " failed, error ") c.text-3.ensures)) (puts_text (decimal c.args.error) c.decimal.ensures)
