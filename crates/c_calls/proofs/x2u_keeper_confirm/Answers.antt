-- `x2u_keeper_confirm`: an answer below 0 is a refusal, which leaves the arrays. Assumes nothing.
use Rattle.std.proofs.Common.{rules}
use Rattle.c_calls.proofs.Answers.{refusal_told}
use Rattle.c_calls.proofs.x2u_keeper_confirm.Goals as goal

pub returns-clause-unchanged : goal.returns-clause-unchanged
returns-clause-unchanged c n e =
    let q = refusal_told _ c.answer.type_inv c.answer.ensures e in
    let same = c.confirm.ensures.unchanged q.0 q.1 in
    search (rules, same)
