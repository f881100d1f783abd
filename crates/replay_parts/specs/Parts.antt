-- The parts of a line, laid one behind another. A text is a list of the octets of its characters.
-- Assumes nothing.
use Rattle.std.specs.Prelude.{◌≡◌, List, [], ◌∷◌, ◌++◌, ℕ, ◌+◌, ◌≤◌, length}
use Rattle.basics.specs.Laid.{Laid}
use Rattle.lister_text.specs.Texts.{tab, decimal, fitting}
use Rattle.lister_text.specs.declared.Output.{Output}
use Rattle.lister_text.specs.Outputs.{HasRoom, Lays}

-- texts one behind another
abbrev pub together : List (List ℕ) → List ℕ
together [] = []
together (t ∷ []) = t
together (t ∷ u ∷ ts) = t ++ together (u ∷ ts)

-- numbers, each behind a tab
abbrev pub tabbed : List ℕ → List (List ℕ)
tabbed [] = []
tabbed (n ∷ ns) = (tab ∷ []) ∷ decimal n ∷ tabbed ns

-- those of texts that fit, in turn from a place of a buffer on: one that doesn't is left out
abbrev pub in_turn : List ℕ → ℕ → List (List ℕ) → List ℕ
in_turn d at [] = []
in_turn d at (t ∷ ts) = fitting d at t ++ in_turn d (at + length (fitting d at t)) ts

-- texts laid so on an output leave it as p; together they are no longer than a number that the code knows
pub record Parts (o : Output) (texts : List (List ℕ)) (p : Output) (most : ℕ) : Type 0 where
  pub short : length (together texts) ≤ most
  pub laid : Lays o (in_turn o.octets.now o.at texts) p

-- what the functions promise that lay part upon part of a line, after the room for any line was tested once: a text that is no longer
-- than such a number is laid if the output has room for it
pub record Puts (o : Output) (text : List ℕ) (p : Output) (most : ℕ) : Type 0 where
  pub loan : p.octets.ghost_name ≡ o.octets.ghost_name
  pub short : length text ≤ most
  pub laid : HasRoom o (length text) → Laid o.octets.now o.at text p.at p.octets.now
