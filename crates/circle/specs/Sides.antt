-- How one number lies to another on a circle of M. Document 02, One: "Every comparison of two X2-U numbers should answer same, ahead, behind or
-- opposite (forward distance exactly M/2)." The laws of it are stated and proved in proofs/Sides.antt.
-- Assumes nothing.
use Rattle.std.specs.Prelude.{◌≡◌, ℕ, ◌/◌, ◌<◌, ◌==◌, nat_lt, if◌then◌else◌}
use Rattle.circle.specs.Circle.{forward}

-- the four answers
pub data Side : Type 0 where
  same : Side
  ahead : Side
  behind : Side
  opposite : Side

-- by how far it is forward, where h is half the circle: no way at all, less than half, exactly half, or more
abbrev pub side_by : ℕ → ℕ → Side
side_by h d = if d == 0 then same else (if nat_lt d h then ahead else (if d == h then opposite else behind))

-- how b lies as seen from a
abbrev pub lies : ℕ → ℕ → ℕ → Side
lies M a b = side_by (M / 2) (forward M a b)

-- ---- what each answer says

-- of the distance d forward, where h is half the circle
abbrev pub Told : ℕ → ℕ → Side → Type 0
Told h d same = d ≡ 0
Told h d ahead = (0 < d) × (d < h)
Told h d behind = h < d
Told h d opposite = d ≡ h

-- the answer the other way round
abbrev pub turned : Side → Side
turned same = same
turned ahead = behind
turned behind = ahead
turned opposite = opposite
