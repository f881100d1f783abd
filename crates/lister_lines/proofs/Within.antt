-- A line's answer ends within the output.
-- Assumes nothing.
use Rattle.std.proofs.Common.{ℕ, ◌-◌, ◌≤◌, List, length, arith, leb-true}
use Rattle.basics.proofs.Laying.{laid_length}
use Rattle.lister_text.specs.declared.Output.{Output}
use Rattle.lister_text.specs.Outputs.{Lays}
use Rattle.lister_text.proofs.Cases.{true_or}
use Rattle.lister_answers.specs.Answers.{most_text, roomy, answer_in}
use Rattle.lister_answers.proofs.Bound.{line_most}

pub line_within : {out out' : Output} (l : List ℕ) → Lays out (answer_in (length out.octets.now - out.at) l) out' → out.at ≤ length out.octets.now → out'.at ≤ length out'.octets.now
line_within {out} {out'} l lays h =
    let room = length out.octets.now - out.at in
    true_or (roomy room)
    (λ e. let k = rw e at lays in omega (arith, h, k.laid.behind, laid_length k.laid, line_most l, leb-true most_text room e))
    (λ e. let k = rw e at lays in omega (arith, h, k.laid.behind, laid_length k.laid))
