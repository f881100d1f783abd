-- `put_data`: the type with a tab, and the number with the line's end. Assumes nothing.
use Rattle.std.proofs.Common.{◌∙◌}
use Rattle.lister_text.proofs.Laying.{puts_then}
use Rattle.lister_answers.proofs.Texts.{data_text}
use Rattle.lister_answers.proofs.put_data.Goals as goal

pub returns : goal.returns
returns c =
    let kind = c.from-2.ensures ∙ c.from.ensures ∙ c.data_type.ensures in
    rw data_text (puts_then (rw kind at c.put_marked.ensures) c.put_marked-2.ensures)
