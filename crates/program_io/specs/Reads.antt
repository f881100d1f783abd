-- What one read brings.
-- Assumes nothing.
use Rattle.std.specs.Prelude.{ℕ, ℤ, Result, Ok, Err}

-- how many octets came: none where the read failed
abbrev pub came : Result ℕ ℤ → ℕ
came (Ok n) = n
came (Err e) = 0
