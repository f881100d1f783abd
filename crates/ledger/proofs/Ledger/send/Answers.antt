-- `send`: what is judged is what the machine refuses by.
-- Assumes nothing.
use Rattle.std.proofs.Common.{◌≡◌, ◌∙◌, Err, ap, rules}
use Rattle.std.specs.Prelude.{Result, ℕ}
use Rattle.refusal.specs.declared.Refusal.{Refusal}
use Rattle.ledger.specs.View.{ledger_in, sent_as, beside}
use Rattle.ledger.proofs.Calls.{send_judged}
use Rattle.ledger.proofs.Ledger.send.Goals as goal

pub returns-in_err-judge : goal.returns-in_err-judge
returns-in_err-judge c =
    let l = ledger_in c.args.self.now in
    let is : c.from_residual.result ≡ Err c.in_err-judge.field-0.0 = search rules in
    ap (λ (r : Result ℕ Refusal). beside (sent_as r) l) is ∙ send_judged l c.args.pdcp c.args.size _ c.in_err-judge.ensures
