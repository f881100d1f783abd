-- Two outcomes that a contract allows are equal, but for octets of the unfinished line's buffer behind those that are held, which no call
-- looks at.
-- Assumes nothing.
use Rattle.std.proofs.Common.{◌≡◌, ℕ, List, sym, ◌∙◌}
use Rattle.basics.specs.Laid.{Laid}
use Rattle.lister_text.specs.declared.Output.{Output}
use Rattle.program_lines.specs.declared.Line.{Line}
use Rattle.program_lines.specs.Lines.{Answering}
use Rattle.program_lines.specs.Feeding.{left_by, Fed}

-- a text is laid in one way
pub one_laid : {d os e f : List ℕ} {at m n : ℕ} → Laid d at os m e → Laid d at os n f → (m ≡ n) × (e ≡ f)
one_laid k l = (k.behind ∙ sym l.behind, k.buffer ∙ sym l.buffer)

-- and what a call of `feed` leaves is one
pub one_left : {S : Type 0} {N : ℕ} (p : Answering S) {s s' s'' : S} {line line' line'' : Line N} {block : List ℕ} {out out' out'' : Output} {m n : ℕ}
    → Fed p s line block out m s' line' out' → Fed p s line block out n s'' line'' out'' → left_by m line' s' out' ≡ left_by n line'' s'' out''
one_left p k l = k.left ∙ sym l.left
