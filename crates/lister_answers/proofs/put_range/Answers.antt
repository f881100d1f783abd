-- `put_range`: the start with its dash, and the end. Assumes nothing.
use Rattle.frame_layout.specs.Types.{range_of}
use Rattle.lister_text.specs.Texts.{decimal}
use Rattle.lister_text.proofs.Laying.{puts_text, puts_then}
use Rattle.lister_answers.proofs.Texts.{range_text_lem}
use Rattle.lister_answers.proofs.put_range.Goals as goal

pub returns : goal.returns
returns c = rw (range_text_lem (range_of c.args.range)) (puts_then c.put_marked.ensures (puts_text (decimal c.args.range.end) c.decimal.ensures))
