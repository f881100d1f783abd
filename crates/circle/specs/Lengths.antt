-- The two number circles of a bearer (document 01, "Two ends of one bearer"): X2-U numbers are below M, which the form fixes, and PDCP
-- numbers below 2^L. In all definitions and code `modulus` is M and `bits` is L.
-- Assumes nothing.
use Rattle.std.specs.Prelude.{ℕ, ◌+◌, ◌-◌, ◌/◌, ◌%◌, ◌^◌, Bool, true, false, ◌==◌, nat_eq, if◌then◌else◌}
use Rattle.basics.specs.Basics.{◌or◌}

-- ---- the form

-- M, by the form (true is long): X2-U numbers are below it
abbrev pub modulus : Bool → ℕ
modulus false = 65536
modulus true = 16777216

-- ---- L, and what follows from it

-- L is 12, 15 or 18
abbrev pub is_length : ℕ → Bool
is_length L = nat_eq L 12 or nat_eq L 15 or nat_eq L 18

-- a word of any content as L: one that is none of the three counts as 18
abbrev pub length_in : ℕ → ℕ
length_in x = if x == 12 then 12 else (if x == 15 then 15 else 18)

-- with 18 bits the form is long
abbrev pub is_long : ℕ → Bool
is_long L = L == 18

-- M, by L
abbrev pub modulus_of : ℕ → ℕ
modulus_of L = modulus (is_long L)

-- half of the X2-U numbers
abbrev pub half : ℕ → ℕ
half L = modulus_of L / 2

-- 2^L: PDCP numbers are below it
abbrev pub pdcps : ℕ → ℕ
pdcps L = 2 ^ L

-- the PDCP number before f
abbrev pub pdcp_before : ℕ → ℕ → ℕ
pdcp_before L f = (f + (pdcps L - 1)) % pdcps L
