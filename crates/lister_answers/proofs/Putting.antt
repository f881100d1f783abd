-- Parts of an answer that a loop puts on an output, one behind another.
-- Assumes nothing.
use Rattle.std.proofs.Common.{◌≡◌, ℕ, List, [], ◌++◌, refl, sym, ◌∙◌, append_assoc, append-nil, subst}
use Rattle.lister_text.specs.declared.Output.{Output}
use Rattle.lister_text.specs.Outputs.{Puts}
use Rattle.lister_text.proofs.Laying.{puts_then, puts_none}

-- of a whole text a front was put, and the rest is left
pub record Leaves (o : Output) (whole : List ℕ) (p : Output) (rest : List ℕ) : Type 0 where
  pub front : List ℕ
  pub puts : Puts o front p
  pub split : front ++ rest ≡ whole

-- at first, all of it
pub leaves_all : (o : Output) (whole : List ℕ) → Leaves o whole o whole
leaves_all o whole = record { front = []; puts = puts_none o; split = refl }

-- a part is put: what stands behind it is left
pub leaves_on : {o p q : Output} {whole t rest : List ℕ} → Leaves o whole p (t ++ rest) → Puts p t q → Leaves o whole q rest
leaves_on {o} {p} {q} {whole} {t} {rest} l k = record { front = l.front ++ t; puts = puts_then l.puts k; split = append_assoc l.front t rest ∙ l.split }

-- at last, nothing
pub leaves_none : {o p : Output} {whole : List ℕ} → Leaves o whole p [] → Puts o whole p
leaves_none {o} {p} l = subst (λ (t : List ℕ). Puts o t p) (sym (append-nil l.front) ∙ l.split) l.puts
