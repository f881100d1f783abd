-- Texts that are laid where they fit, one behind another.
-- Assumes nothing.
use Rattle.std.proofs.Common.{ℕ, ◌+◌, List, [], ◌++◌, length, refl, ◌∙◌, le-leb}
use Rattle.basics.specs.Laid.{Room, Laid}
use Rattle.basics.proofs.Laying.{laid_none, laid_then, room_first, room_then}
use Rattle.lister_text.specs.Texts.{fitting}
use Rattle.lister_text.specs.declared.Output.{Output}
use Rattle.lister_text.specs.Outputs.{HasRoom, fitted, Lays, Puts}

-- where there is room for it, the whole of it is laid
pub laid_fitting : {d e : List ℕ} {at next : ℕ} (t : List ℕ) → Room d at (length t) → Laid d at (fitting d at t) next e → Laid d at t next e
laid_fitting {d} {e} {at} t room l = rw (le-leb (at + length t) (length d) room) at l

-- and so on an output
pub lays_fitted : {o p : Output} (t : List ℕ) → HasRoom o (length t) → Lays o (fitted o t) p → Lays o t p
lays_fitted t room l = record { loan = l.loan; laid = laid_fitting t room l.laid }

-- two texts, one behind another
pub lays_then : {o p q : Output} {s t : List ℕ} → Lays o s p → Lays p t q → Lays o (s ++ t) q
lays_then k l = record { loan = l.loan ∙ k.loan; laid = laid_then k.laid l.laid }

-- ---- with room for them

-- a text that is laid where it fits
pub puts_text : {o p : Output} (t : List ℕ) → Lays o (fitted o t) p → Puts o t p
puts_text t l = record { loan = l.loan; lays = λ room. lays_fitted t room l }

-- two texts
pub puts_then : {o p q : Output} {s t : List ℕ} → Puts o s p → Puts p t q → Puts o (s ++ t) q
puts_then {o} {p} {q} {s} {t} k l = record {
  loan = l.loan ∙ k.loan;
  lays = λ room.
      let first = k.lays (room_first o.octets.now o.at s t room) in
      lays_then first (l.lays (room_then s t first.laid room));
}

-- none
pub puts_none : (o : Output) → Puts o [] o
puts_none o = record { loan = refl; lays = λ room. record { loan = refl; laid = laid_none o.octets.now refl } }
