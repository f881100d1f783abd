-- Fields and a line feed, where there is room for any line.
-- Assumes nothing.
use Rattle.std.proofs.Common.{◌≡◌, ℕ, ◌+◌, ◌≤◌, List, [], ◌∷◌, ◌++◌, length, true, arith, leb-true}
use Rattle.std.specs.Prelude.{leb}
use Rattle.basics.proofs.Laying.{laid_length}
use Rattle.lister_text.specs.Texts.{line_feed, tab, parted}
use Rattle.lister_text.specs.declared.Output.{Output}
use Rattle.lister_text.specs.Outputs.{fitted, Lays}
use Rattle.replay_parts.specs.Parts.{Puts}
use Rattle.replay_parts.proofs.Putting.{puts_octet, puts_then}
use Rattle.replay_states.specs.Lines.{line_with, most_text, Said}

-- where there is room for any line, fields and a line feed are laid
pub line_laid : {o p q : Output} {m : ℕ} (fields : List (List ℕ)) → m + 1 ≤ most_text → leb (o.at + most_text) (length o.octets.now) ≡ true
    → Puts o (parted tab fields) p m → Lays p (fitted p (line_feed ∷ [])) q → Said o (line_with fields) q
unfolding line_with
line_laid {o} {p} {q} {m} fields h room j k =
    let both = puts_then j (puts_octet k) in
    let fits : o.at + length (parted tab fields ++ (line_feed ∷ [])) ≤ length o.octets.now = omega (arith, both.short, leb-true (o.at + most_text) (length o.octets.now) room) in
    let laid = both.laid fits in
    record { lays = rw room (record { loan = both.loan; laid = laid }); within = λ within. omega (arith, laid.behind, laid_length laid, fits) }
