-- `x2u_keeper_status`: the frame's length is within the buffer, so that it is answered whole. Assumes nothing.
use Rattle.std.proofs.Common.{rules, ◌≡◌, ℕ, ◌<◌, ◌^◌, Ok, sym, ◌∙◌, ap, arith}
use Rattle.refusal.specs.Numbers as numbers
use Rattle.frame_layout.proofs.Within.{answered_within}
use Rattle.bearer.specs.Keeper.{Reported}
use Rattle.bearer.proofs.Answers.Reported.{within_report}
use Rattle.keeper.specs.View.{keeper_in}
use Rattle.c_calls.proofs.Answers.{whole_answer}
use Rattle.c_calls.proofs.x2u_keeper_status.Goals as goal

pub returns-clause-dst_after : goal.returns-clause-dst_after
returns-clause-dst_after c =
    let a = c.args in
    let k = keeper_in a.numbers.now a.pdcps.now a.marks.now a.starts.now a.ends.now a.words.now in
    let after = c.status.ensures.dst_after in
    let fits : (n : ℕ) → c.status.result ≡ Ok n → n < 2 ^ 63 = λ n e.
    let answer = ap (numbers.answer_of (λ (m : ℕ). m)) (sym e) ∙ ap (λ (w : Reported). w.answer) after in
    let within = answered_within a.dst.now answer (within_report k a.desired a.minimum c.is_set.result a.dst.now) in
    omega (arith, within) in
    let whole = whole_answer c.status.result fits in
    search (rules, whole)
