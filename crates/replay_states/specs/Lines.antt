-- The lines that answer calls: fields parted by tabs, laid where there is room for any line.
-- Assumes nothing.
use Rattle.std.specs.Prelude.{List, [], ◌∷◌, ◌++◌, ℕ, ◌+◌, ◌-◌, ◌≤◌, leb, length, if◌then◌else◌}
use Rattle.lister_text.specs.Texts.{line_feed, tab, parted}
use Rattle.lister_text.specs.declared.Output.{Output}
use Rattle.lister_text.specs.Outputs.{Lays}

-- fields parted by tabs, and the line's end
unfoldable pub line_with : List (List ℕ) → List ℕ
line_with fields = parted tab fields ++ (line_feed ∷ [])

-- no line of an answer is longer
abbrev pub most_text : ℕ
most_text = 18432

-- so the fields of none are, without the line's end
abbrev pub most_fields : ℕ
most_fields = most_text - 1

-- a line on an output with room for any line, and else nothing
abbrev pub with_room : Output → List ℕ → List ℕ
with_room o line = if leb (o.at + most_text) (length o.octets.now) then line else []

-- a line laid so: where there is room for any, it ends within the output
pub record Said (o : Output) (line : List ℕ) (p : Output) : Type 0 where
  pub lays : Lays o (with_room o line) p
  pub within : o.at ≤ length o.octets.now → p.at ≤ length p.octets.now
