-- A number as octets, the most significant first, and a number out of octets.
-- Assumes nothing.
use Rattle.std.specs.Prelude.{List, [], ◌∷◌, ℕ, zero, suc, ◌+◌, ◌*◌, ◌/◌, ◌%◌, ◌^◌, get_or}

-- the number n in w octets
abbrev pub octets : ℕ → ℕ → List ℕ
octets zero n = []
octets (suc w) n = n / 256 ^ w % 256 ∷ octets w n

-- the number that stands in w octets of s, from place i on
abbrev pub field : List ℕ → ℕ → ℕ → ℕ
field s i zero = 0
field s i (suc w) = field s i w * 256 + get_or s (i + w) 0
