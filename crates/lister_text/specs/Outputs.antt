-- Texts laid on an output, one behind another.
-- Assumes nothing.
use Rattle.std.specs.Prelude.{◌≡◌, List, ℕ, length}
use Rattle.basics.specs.Laid.{Room, Laid}
use Rattle.lister_text.specs.Texts.{fitting}
use Rattle.lister_text.specs.declared.Output.{Output}

-- an output has room for that many octets more
abbrev pub HasRoom : Output → ℕ → Type 0
HasRoom o n = Room o.octets.now o.at n

-- a text where an output has room for it, and else nothing
abbrev pub fitted : Output → List ℕ → List ℕ
fitted o t = fitting o.octets.now o.at t

-- a text laid on an output, behind what stands there: the output still has the octets that were lent to it
pub record Lays (o : Output) (t : List ℕ) (p : Output) : Type 0 where
  pub loan : p.octets.ghost_name ≡ o.octets.ghost_name
  pub laid : Laid o.octets.now o.at t p.at p.octets.now

-- a text laid on an output with room for it
pub record Puts (o : Output) (t : List ℕ) (p : Output) : Type 0 where
  pub loan : p.octets.ghost_name ≡ o.octets.ghost_name
  pub lays : HasRoom o (length t) → Lays o t p
