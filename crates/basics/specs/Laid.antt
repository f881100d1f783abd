-- Octets laid at a place of a buffer, one store after another.
-- Assumes nothing.
use Rattle.std.specs.Prelude.{◌≡◌, List, ℕ, ◌+◌, ◌≤◌, length}
use Rattle.std.proofs.lemmas.List.Edits.{sets}

-- a buffer holds that many octets from a place on
abbrev pub Room : List ℕ → ℕ → ℕ → Type 0
Room d at n = at + n ≤ length d

-- octets laid at a place of d leave e, and the place behind them is next
pub record Laid (d : List ℕ) (at : ℕ) (os : List ℕ) (next : ℕ) (e : List ℕ) : Type 0 where
  pub behind : next ≡ at + length os
  pub buffer : e ≡ sets d at os
