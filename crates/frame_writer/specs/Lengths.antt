-- How long a status is before its padding (document 01, "Layout").
-- Assumes nothing.
use Rattle.std.specs.Prelude.{Bool, ℕ, zero, suc, ◌+◌, ◌*◌}
use Rattle.frame_layout.specs.Frames.{width, count_at, list_at}

-- the length with n ranges: the fixed fields, and with a list the count and the ranges
abbrev pub status_length : Bool → ℕ → ℕ
status_length long zero = count_at (width long)
status_length long (suc n) = list_at (width long) + suc n * (2 * width long)
