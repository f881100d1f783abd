-- `put_marked`: the digits, and the mark behind them. Assumes nothing.
use Rattle.std.proofs.Common.{[], ◌∷◌}
use Rattle.lister_text.specs.Texts.{decimal}
use Rattle.lister_text.proofs.Laying.{puts_text, puts_then}
use Rattle.lister_answers.proofs.put_marked.Goals as goal

pub returns : goal.returns
returns c = puts_then (puts_text (decimal c.args.n) c.decimal.ensures) (puts_text (c.args.mark ∷ []) c.octet.ensures)
