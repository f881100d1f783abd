-- `put_refused`: `refused` with a tab, and the number with the line's end. Assumes nothing.
use Rattle.lister_text.specs.Texts.{ascii}
use Rattle.lister_text.proofs.Laying.{puts_text, puts_then}
use Rattle.lister_answers.proofs.Texts.{refused_text}
use Rattle.lister_answers.proofs.put_refused.Goals as goal

pub returns : goal.returns
returns c = rw refused_text (puts_then (puts_text (ascii "refused\t") c.text.ensures) (rw c.from.ensures at c.put_marked.ensures))
