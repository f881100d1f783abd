-- `put_decimal`: each turn stores the last digit of what is left, and leaves its tenth to be laid before it. Assumes nothing.
use Rattle.std.proofs.Common.{◌≡◌, ◌+◌, ◌<◌, length}
use Rattle.std.proofs.lemmas.List.Edits.{sets}
use Rattle.lister_text.specs.Texts.{decimal}
use Rattle.lister_text.proofs.put_decimal.Given as goal

abbrev pub invariant-loop-rest : goal.invariant-loop-rest
invariant-loop-rest l =
    (l.i + 1 ≡ l.at + length (decimal l.rest)) × (l.i < length l.out) × (length l.out ≡ length l.fn.out) × (sets l.out l.at (decimal l.rest) ≡ sets l.fn.out l.at (decimal l.n))

abbrev pub decreases-loop-rest : goal.decreases-loop-rest
decreases-loop-rest l = l.rest
